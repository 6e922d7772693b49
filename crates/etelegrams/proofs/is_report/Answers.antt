-- `etelegrams::is_report` meets its contract. Assumes nothing.
use mathlib.Core.Path.{◌≡◌, sym, ap, ◌∙◌}
use Prim.Native.Nat.{◌+◌, ◌-◌}
use native.Mathlib.Omega.{arith}
use Rattle.paper.specs.ETelegrams.{is_report}
use Rattle.etelegrams.proofs.Laws.{is_report_lem, small_report}
use Rattle.etelegrams.proofs.is_report.Goals as goal

pub returns-then-code-lt2560 : goal.returns-then-code-lt2560
returns-then-code-lt2560 c = sym (small_report c.args.code (omega arith))

pub returns : goal.returns
returns c =
    let code = c.args.code in
    let e : code - 0x0A00 + 0x0A00 ≡ code = omega arith in
    c.is_request.ensures ∙ sym (is_report_lem (code - 0x0A00)) ∙ ap is_report e
