-- Numbers read digit by digit. Assumes nothing.
use Rattle.std.proofs.Common.{◌≡◌, ℕ, ◌+◌, ◌<◌, ◌≤◌, suc, Bool, true, false, cond, List, length, get_or, drop, Option, None, Some, refl, add-one, drop-cons}
use Rattle.std.proofs.Math.ListN.{drop_of_length-le}
use Rattle.saying.specs.Numbers.{and_digit, goes_on, number_from}

some_of : (b : Bool) (m k : ℕ) (f : ℕ → Option ℕ) → Some k ≡ cond b (Some m) None → cond b (f m) None ≡ f k
some_of true m k f e = cc
some_of false m k f e = cc

none_of : (b : Bool) (m : ℕ) (r : Option ℕ) → None ≡ cond b (Some m) None → cond b r None ≡ None
none_of true m r e = cc
none_of false m r e = refl

-- one digit more
pub goes : (most n i k : ℕ) (xs : List ℕ) → i < length xs
    → Some k ≡ cond (goes_on most n (get_or xs i 0)) (Some (and_digit n (get_or xs i 0))) None
    → number_from most n (drop i xs) ≡ number_from most k (drop (i + 1) xs)
unfolding number_from
goes most n i k xs h e = rw (add-one, drop-cons xs i 0) (some_of _ _ k (λ (m : ℕ). number_from most m (drop (suc i) xs)) e)

pub stops : (most n i : ℕ) (xs : List ℕ) → i < length xs
    → None ≡ cond (goes_on most n (get_or xs i 0)) (Some (and_digit n (get_or xs i 0))) None
    → number_from most n (drop i xs) ≡ None
unfolding number_from
stops most n i xs h e = rw (drop-cons xs i 0) (none_of _ _ _ e)

pub done : (most n i : ℕ) (xs : List ℕ) → length xs ≤ i → number_from most n (drop i xs) ≡ Some n
unfolding number_from
done most n i xs h = rw (drop_of_length-le xs h)
