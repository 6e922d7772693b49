-- `spelling::language::spell_language` meets its contract. Assumes nothing.
use mathlib.Core.Path.{sym}
use borrow.Author.Rules.{rules}
use Rattle.spelling.proofs.Laws.{put_as, filled, letters_are, digits_are}
use Rattle.spelling.proofs.language.spell_language.Goals as goal

pub returns-then-is_letter : goal.returns-then-is_letter
returns-then-is_letter c =
    let a = c.args in
    let e = letters_are a.language _ _ c.is_letter.ensures c.is_letter-2.ensures c.if-is_letter.true in
    filled _ _ _ _ (rw (sym e) (search rules)) (put_as c.put.ensures e)

pub returns : goal.returns
returns c =
    let a = c.args in
    let e = digits_are a.language _ _ _ _ _ _ c.is_letter.ensures c.is_letter-2.ensures c.if-is_letter.false (search rules) c.digit-c.ensures c.digit-d.ensures c.digit-e.ensures c.digit-f.ensures in
    filled _ _ _ _ (rw (sym e) (search rules)) (put_as c.put-2.ensures e)
