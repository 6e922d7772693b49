-- `marshalling::write_route` meets its contract. Assumes nothing.
use mathlib.Core.Path.{ap, ◌∙◌}
use mathlib.Core.Bool.{Bool, cond}
use lib.Dec.{leb}
use Rattle.paper.specs.Reading.{Reading}
use Rattle.paper.specs.Marshalling.{live}
use Rattle.marshalling.proofs.Laws.{byte_of}
use Rattle.marshalling.proofs.write_route.Goals as goal

pub returns : goal.returns
unfolding live
returns c =
    let read = c.read_route-route.ensures.reads in
    record {
      lives = c.from.ensures ∙ byte_of _ ∙ ap (λ (b : Bool). cond b 1 0) c.is_live.ensures ∙ ap (λ (x : Reading). cond (leb x.reason 1) 1 0) read.reading;
      octets = rw (← read.start, ← read.width, ← read.reading) c.write_field.ensures;
    }
