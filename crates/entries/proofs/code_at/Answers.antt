-- `entries::code_at` meets its contract: the last six of the eight octets are the entry. Assumes nothing.
use Prim.Native.Nat.{ℕ, ◌+◌, ◌*◌, ◌/◌, ◌%◌, ◌^◌}
use mathlib.Core.Path.{◌≡◌}
use mathlib.Core.List.{List}
use native.Mathlib.Omega.{arith}
use Rattle.paper.specs.Octets.{number, Octets}
use Rattle.paper.specs.SignalList.{entry, code_size, code_at}
use Rattle.paper.proofs.NumberLaws.{number_lt, number_split}
use Rattle.entries.specs.Entries.{CodeRead}
use Rattle.entries.proofs.code_at.Goals as goal

read : (xs : List ℕ) → Octets xs → (k x : ℕ) → x ≡ number xs (code_size * k) 8
    → CodeRead xs k (record { signal = x / 2 ^ 32 % 65536; low = x / 2 ^ 16 % 65536; high = x % 65536 })
unfolding code_at
read xs o k x is =
    let at = entry code_size k in
    let e : code_size * k + 2 ≡ at = omega arith in
    let whole = rw e at (number_split xs (code_size * k) 2 6) in
    let six = number_split xs at 4 2 in
    let four = number_split xs at 2 2 in
    let a = number_lt xs at 2 o in
    let b = number_lt xs (at + 2) 2 o in
    let c = number_lt xs (at + 4) 2 o in
    let signal : x / 2 ^ 32 % 65536 ≡ number xs at 2 = omega arith in
    let low : x / 2 ^ 16 % 65536 ≡ number xs (at + 2) 2 = omega arith in
    let high : x % 65536 ≡ number xs (at + 4) 2 = omega arith in
    record { is = rw (signal, low, high); signal_small = omega arith; low_small = omega arith; high_small = omega arith }

pub returns : goal.returns
returns c =
    let a = c.args in
    read a.tail.now (λ i. (c.shared_slice_known-1.given i).fits) a.k _ c.read64-x.ensures.value
