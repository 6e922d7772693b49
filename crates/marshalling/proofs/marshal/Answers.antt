-- `marshalling::marshal` meets its contract. Assumes nothing.
use Rattle.paper.specs.Marshalling.{marshalling, marshalling_by}
use Rattle.lists.specs.Listed.{list_as}
use Rattle.marshalling.specs.Marshalling.{marshalling_under}
use Rattle.marshalling.proofs.Laws.{delivered_list, delivered_listed}
use Rattle.marshalling.proofs.marshal.Goals as goal

pub returns-in_err-list : goal.returns-in_err-list
unfolding marshalling
returns-in_err-list c =
    let a = c.args in
    delivered_list _ _ (marshalling_by a.store.now a.clock a.bus.now) _ _ c.from_residual.ensures c.in_err-list.ensures

pub returns : goal.returns
unfolding marshalling marshalling_under
returns c =
    let a = c.args in
    delivered_listed _ _ (marshalling_by a.store.now a.clock a.bus.now) _ (list_as c.in_ok-list.list) c.in_ok-list.ensures c.marshal_under.ensures
