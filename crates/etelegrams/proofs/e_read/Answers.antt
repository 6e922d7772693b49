-- `etelegrams::e_read` meets its contract. Assumes nothing.
use mathlib.Core.Path.{◌≡◌, sym, ap, ◌∙◌}
use mathlib.Core.Bool.{false, ◌||◌}
use mathlib.Core.List.{List}
use Prim.Native.Nat.{ℕ, ◌≤◌}
use native.Mathlib.Omega.{arith}
use lib.ListN.{length}
use lib.Dec.{ltb}
use borrow.Author.Tests.{lt-ltb, le-ltb}
use Rattle.paper.specs.Answer.{refuse_if}
use Rattle.paper.specs.ETelegrams.{e_code, e_limit, e_reading}
use Rattle.etelegrams.proofs.Laws.{by_request, by_report, by_neither}
use Rattle.etelegrams.proofs.e_read.Goals as goal

limit : (t : List ℕ) (code limit : ℕ) → code ≡ e_code t → limit ≡ e_limit code → limit ≡ e_limit (e_code t)
limit t code n e h = h ∙ ap e_limit e

long : (t : List ℕ) (code most : ℕ) → 9 ≤ length t → code ≡ e_code t → most ≡ e_limit code → length t ≤ most
    → (ltb (length t) 9 || ltb (e_limit (e_code t)) (length t)) ≡ false
long t code most h e m k =
    simp (le-ltb (length t) 9 (omega arith), le-ltb (e_limit (e_code t)) (length t) (omega (arith, limit t code most e m)))

pub returns-then-telegram-lt9 : goal.returns-then-telegram-lt9
unfolding e_reading refuse_if
returns-then-telegram-lt9 c = simp (lt-ltb _ _ c.if-telegram-lt9.true)

pub returns-then-e_limit-telegram : goal.returns-then-e_limit-telegram
unfolding e_reading refuse_if
returns-then-e_limit-telegram c =
    let t = c.args.telegram.now in
    simp (le-ltb (length t) 9 (omega arith), lt-ltb (e_limit (e_code t)) (length t) (omega (arith, limit t _ _ c.read16-code.ensures.value c.e_limit.ensures)))

pub returns-then-is_request : goal.returns-then-is_request
returns-then-is_request c =
    by_request _ _ (long _ _ _ c.if-telegram-lt9.false c.read16-code.ensures.value c.e_limit.ensures c.if-e_limit-telegram.false) c.read16-code.ensures.value (sym c.is_request.ensures ∙ c.if-is_request.true)

pub returns-then-not-is_report : goal.returns-then-not-is_report
returns-then-not-is_report c =
    by_neither _ _ (long _ _ _ c.if-telegram-lt9.false c.read16-code.ensures.value c.e_limit.ensures c.if-e_limit-telegram.false) c.read16-code.ensures.value (sym c.is_request.ensures ∙ c.if-is_request.false)
    (sym c.is_report.ensures ∙ c.if-not-is_report.true)

pub returns : goal.returns
returns c =
    by_report _ _ (long _ _ _ c.if-telegram-lt9.false c.read16-code.ensures.value c.e_limit.ensures c.if-e_limit-telegram.false) c.read16-code.ensures.value (sym c.is_request.ensures ∙ c.if-is_request.false)
    (sym c.is_report.ensures ∙ c.if-not-is_report.false)
