-- `marshalling::marshal_under` meets its contract. Assumes nothing.
use Rattle.marshalling.proofs.Laws.{serves}
use Rattle.marshalling.proofs.marshal_under.Goals as goal

pub write_routes-requires-clause-served : goal.write_routes-requires-clause-served
write_routes-requires-clause-served c = serves _ _ _ c.if-not-is_store.ensures c.if-some_short.ensures
