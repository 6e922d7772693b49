-- `reading::mark_in` meets its contract. Assumes nothing.
use native.Mathlib.Omega.{arith}
use borrow.Author.Rules.{rules}
use Rattle.entries.specs.Entries.{signal_of}
use Rattle.lists.specs.Judged.{counts_of}
use Rattle.reading.proofs.Laws.{place_within}
use Rattle.reading.proofs.mark_in.Goals as goal

pub read_field-requires : goal.read_field-requires
read_field-requires c =
    let l = c.args.list.now in
    record {
      some = search rules;
      wide = search rules;
      inside = omega (arith, c.place.ensures, place_within l.octets.now (counts_of l.counts) (signal_of c.args.s) l.laid c.requires.0);
    }
