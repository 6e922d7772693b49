-- `spelling::spell::put_utf8` meets its contract. Assumes nothing.
use borrow.Author.Tests.{lt-ltb, le-ltb}
use Rattle.spelling.specs.Spelling.{utf8}
use Rattle.spelling.proofs.Laws.{put_as}
use Rattle.spelling.proofs.spell.put_utf8.Goals as goal

pub returns-then-u-lt128 : goal.returns-then-u-lt128
unfolding utf8
returns-then-u-lt128 c = put_as c.put.ensures (simp (lt-ltb _ _ c.if-u-lt128.true))

pub returns-then-u-lt2048 : goal.returns-then-u-lt2048
unfolding utf8
returns-then-u-lt2048 c = put_as c.put-then-u-lt2048.ensures (simp (le-ltb _ _ c.if-u-lt128.false, lt-ltb _ _ c.if-u-lt2048.true))

pub returns : goal.returns
unfolding utf8
returns c = put_as c.put-2.ensures (simp (le-ltb _ _ c.if-u-lt128.false, le-ltb _ _ c.if-u-lt2048.false))
