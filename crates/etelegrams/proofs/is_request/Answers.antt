-- `etelegrams::is_request` meets its contract: the chain is the paper's table. Assumes nothing.
use Rattle.paper.specs.ETelegrams.{requests}
use Rattle.etelegrams.proofs.Laws.{is_request_lem}
use Rattle.etelegrams.proofs.is_request.Goals as goal

pub returns : goal.returns
unfolding requests
returns c = is_request_lem c.args.code
