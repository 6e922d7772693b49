-- `profiles::judge_profile` meets its contract. Assumes nothing.
use Rattle.lists.proofs.Laws.{accepted_laid}
use Rattle.profiles.proofs.judge_profile.Goals as goal

pub invariant_of-accepted : goal.invariant_of-accepted
invariant_of-accepted c = record { laid = accepted_laid _ _ _ c.in_ok-counts.ensures }
