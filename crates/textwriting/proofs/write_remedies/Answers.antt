-- `textwriting::write_remedies` meets its contract. Assumes nothing.
use mathlib.Core.Path.{◌≡◌, refl, sym, ◌∙◌}
use mathlib.Core.Bool.{true}
use mathlib.Core.List.{[], map}
use Prim.Native.Nat.{ℕ, ◌≤◌}
use native.Mathlib.Omega.{arith}
use lib.ListN.{length, length-map}
use borrow.Author.Rules.{rules}
use borrow.Author.Tests.{eq-eqb, ne_eqb}
use Rattle.std.specs.Prelude.{Some}
use Rattle.paper.specs.Remedies.{Handed, blocks_of, size_to}
use Rattle.paper.proofs.RemedyLaws.{size_least}
use Rattle.refusals.proofs.WrittenLaws.{handed_on}
use Rattle.textwriting.specs.Writing.{handed_of, size_in}
use Rattle.textwriting.proofs.Laws.{no_size, some_size, wrote_refused, by_agree, by_room, by_count, by_blocks, blocks_fit, written_all}
use Rattle.textwriting.proofs.write_remedies.Goals as goal
use Rattle.textwriting.proofs.write_remedies.Goals.{Start}

-- what is handed in
abbrev H : Start → Handed
H c = handed_of c.args.head.now c.args.carried.now c.args.language c.args.ordered (blocks_of c.args.keys.now (map (λ x. x.now) c.args.texts.now))

many : (c : Start) → length c.args.texts.now ≡ (H c).blocks.many
many c = sym (length-map c.args.texts.now (λ x. x.now))

agree : (c : Start) → length c.args.keys.now ≡ length c.args.texts.now → (H c).blocks.agree ≡ true
agree c e = eq-eqb _ _ (e ∙ many c)

sized : (c : Start) (v : ℕ) → Some v ≡ size_in (blocks_of [] (map (λ x. x.now) c.args.texts.now)) (length c.args.out.now)
    → (v ≡ size_to (H c).blocks (length c.args.texts.now)) × (size_to (H c).blocks (length c.args.texts.now) ≤ length c.args.out.now)
sized c v e = let z = some_size c.args.keys.now _ _ v e in rw (many c) z

pub returns-then-keys-n : goal.returns-then-keys-n
returns-then-keys-n c =
    let s = (goal.at.returns-then-keys-n c).Start in
    wrote_refused _ _ _ (by_agree (H s) _ (ne_eqb _ _ (λ e. c.if-keys-n.true (e ∙ sym (many s)))))

pub returns-in_default : goal.returns-in_default
returns-in_default c =
    let s = (goal.at.returns-in_default c).Start in
    wrote_refused _ _ _ (by_room (H s) _ (agree s c.if-keys-n.false) _ refl (no_size c.args.keys.now _ _ c.in_default.ensures))

pub returns-then-not-count_rule : goal.returns-then-not-count_rule
returns-then-not-count_rule c =
    let s = (goal.at.returns-then-not-count_rule c).Start in
    wrote_refused _ _ _ (by_count (H s) _ (agree s c.if-keys-n.false) _ (many s) (sized s _ c.in-Some.ensures).1 (sym c.count_rule.ensures ∙ c.if-not-count_rule.true))

pub returns-in_err-first_handed : goal.returns-in_err-first_handed
returns-in_err-first_handed c =
    let s = (goal.at.returns-in_err-first_handed c).Start in
    rw (handed_on _ _ c.from_residual.ensures)
    (wrote_refused _ _ _ (by_blocks (H s) _ (agree s c.if-keys-n.false) _ (many s) (sized s _ c.in-Some.ensures).1
    (sym c.count_rule.ensures ∙ c.if-not-count_rule.false) _ c.in_err-first_handed.ensures))

pub write_front-requires : goal.write_front-requires
write_front-requires c =
    let s = (goal.at.write_front-requires c).Start in
    omega (arith, (sized s _ c.in-Some.ensures).1, size_least (H s).blocks (length c.args.texts.now))

pub write_blocks-requires-clause-room : goal.write_blocks-requires-clause-room
write_blocks-requires-clause-room c =
    let s = (goal.at.write_blocks-requires-clause-room c).Start in
    rw c.write_front.auto.out (blocks_fit (H s) _ (agree s c.if-keys-n.false) _ (many s) (sized s _ c.in-Some.ensures).1 c.in_ok-first_handed.ensures)

pub returns : goal.returns
returns c =
    let s = (goal.at.returns c).Start in
    let z = sized s _ c.in-Some.ensures in
    written_all (H s) _ (agree s c.if-keys-n.false) _ (many s) z.1 (sym c.count_rule.ensures ∙ c.if-not-count_rule.false) c.in_ok-first_handed.ensures
    (record { six = c.write_front.ensures.1; twelve = c.write_front.ensures.2; language = search rules }) _ z.0 _ _ c.write_front.ensures.0 c.write_blocks.ensures
