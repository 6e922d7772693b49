-- An accepted list has at most 256 signals and 64 checks.
use Rattle.lists.proofs.Laws.{accepted_laid}
use Rattle.compose.proofs.judge.Goals as goal

pub compose_under-requires : goal.compose_under-requires
compose_under-requires g c =
    let l = accepted_laid _ _ _ c.in-Ok.ensures in
    (l.signals.opens.within, l.checks.opens.within)
