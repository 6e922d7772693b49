-- `profiles::find_breach` meets its contract. Assumes nothing.
use Rattle.profiles.specs.Profiles.{profile_of}
use Rattle.profiles.proofs.Laws.{refused_none, found_by, ok_laid}
use Rattle.profiles.proofs.find_breach.Goals as goal

pub returns-in_err-counts : goal.returns-in_err-counts
returns-in_err-counts c = refused_none (profile_of c.args.profile) _ _ _ c.judge.ensures c.in_err-counts.ensures.value _ c.from_residual.ensures

pub invariant_of-accepted : goal.invariant_of-accepted
invariant_of-accepted c = record { laid = ok_laid _ _ _ c.judge.ensures _ c.in_ok-counts.ensures.value }

pub returns : goal.returns
returns c = found_by (profile_of c.args.profile) _ _ _ c.judge.ensures _ c.in_ok-counts.ensures.value _ c.breach_in.ensures
