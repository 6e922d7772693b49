-- `textwriting::write_blocks` meets its contract. Assumes nothing.
use mathlib.Core.Path.{◌≡◌}
use mathlib.Core.List.{map}
use lib.ListN.{length}
use Rattle.paper.specs.Octets.{over}
use Rattle.paper.specs.Remedies.{blocks_of, size_to, blocks_to}
use Rattle.textwriting.proofs.write_blocks.Given as goal

abbrev pub invariant-loop-key : goal.invariant-loop-key
invariant-loop-key l = (length l.out ≡ length l.initial.out) × (l.at ≡ size_to (blocks_of l.keys (map (λ x. x.now) l.texts)) (length l.yielded)) × (l.out ≡ over l.initial.out 30 (blocks_to (blocks_of l.keys (map (λ x. x.now) l.texts)) (length l.yielded)))
