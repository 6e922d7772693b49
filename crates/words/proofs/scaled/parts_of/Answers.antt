-- `words::scaled::parts_of`: the call asks what the two tests say, with the two numbers by their bit patterns.
use Rattle.std.proofs.Common.{T, sym, subst}
use lib.Ieee.{of_bits, neg}
use Rattle.words.proofs.scaled.parts_of.Goals as goal

pub truncating_f32_to_u64-requires-clause-lower_bound :
    goal.truncating_f32_to_u64-requires-clause-lower_bound
unfolding of_bits neg
truncating_f32_to_u64-requires-clause-lower_bound c = subst T (sym c.if-n.true) tt

pub truncating_f32_to_u64-requires-clause-upper_bound :
    goal.truncating_f32_to_u64-requires-clause-upper_bound
unfolding of_bits neg
truncating_f32_to_u64-requires-clause-upper_bound c = subst T (sym c.if-n-2.true) tt
