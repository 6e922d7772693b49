-- Document 01, "Store, age and reading": composing an R-telegram.
use Rattle.std.specs.Prelude.{ℕ, ◌+◌, ◌-◌, ◌*◌, ◌^◌, ◌<◌, ◌≡◌, Bool, true, not, ◌&&◌, ◌||◌, List, ◌∷◌, length, get_or, replicate, ltb, leb, eqb}
use Rattle.paper.specs.Octets.{fits, Put, puts}
use Rattle.paper.specs.Answer.{Answer, gives, refuse_if}
use Rattle.paper.specs.First.{first_bad}
use Rattle.paper.specs.Telegrams.{is_type, type_length, carries, mark_width}
use Rattle.paper.specs.SignalList.{SignalList, Counts, judge, list_of, under_list, version, knows}

-- "every signal the type carries and every check within the telegram's length"
abbrev pub writes_signal : SignalList → ℕ → ℕ → Bool
writes_signal l type k = carries type (l.signal k).type

abbrev pub writes_check : SignalList → ℕ → ℕ → Bool
writes_check l type j = leb (l.check j + mark_width) (8 * type_length type)

-- "It writes the head, the list's version .. all other bits are 0."
unfoldable pub headed : SignalList → ℕ → List ℕ
headed l type = (16 + type) ∷ version l ∷ replicate (type_length type - 2) 0

-- "one value per signal and one mark per check, in list order"
abbrev pub signal_put : SignalList → ℕ → List ℕ → ℕ → Put
signal_put l type values k =
    record { written = writes_signal l type k; start = (l.signal k).start; width = (l.signal k).width; value = get_or values k 0 }

abbrev pub check_put : SignalList → ℕ → List ℕ → ℕ → Put
check_put l type marks j = record { written = writes_check l type j; start = l.check j; width = mark_width; value = get_or marks j 0 }

unfoldable pub composed : SignalList → ℕ → List ℕ → List ℕ → List ℕ
composed l type values marks = puts (check_put l type marks) (puts (signal_put l type values) (headed l type) l.signals) l.checks

-- "Values and marks it doesn't write are not tested."
unfoldable pub mark_fits : SignalList → ℕ → List ℕ → ℕ → Bool
mark_fits l type marks j = not (writes_check l type j) || leb (get_or marks j 0) 3

unfoldable pub value_fits : SignalList → ℕ → List ℕ → ℕ → Bool
value_fits l type values k =
    not (writes_signal l type k) || fits (get_or values k 0) (l.signal k).width && knows l k (get_or values k 0)

-- 1-4, then 9, 13, 14, 15 with the first signal at fault, 16; `room` is the length of the output
abbrev pub composing_by : ℕ → List ℕ → List ℕ → ℕ → SignalList → Answer (List ℕ)
composing_by type values marks room l =
    refuse_if (not (is_type type)) 9 0
    (refuse_if (not (eqb (length values) l.signals && eqb (length marks) l.checks)) 13 0
    (refuse_if (ltb (first_bad (mark_fits l type marks) l.checks) l.checks) 14 0
    (refuse_if (ltb (first_bad (value_fits l type values) l.signals) l.signals) 15 (first_bad (value_fits l type values) l.signals)
    (refuse_if (not (eqb room (type_length type))) 16 0
    (gives (composed l type values marks))))))

unfoldable pub composing : ℕ → List ℕ → ℕ → List ℕ → List ℕ → ℕ → Answer (List ℕ)
composing form xs type values marks room = under_list form xs (composing_by type values marks room)

-- what passes the tests
pub record Fitting (l : SignalList) (type : ℕ) (values marks : List ℕ) : Type 0 where
  pub typed : is_type type ≡ true
  pub valued : length values ≡ l.signals
  pub marked : length marks ≡ l.checks
  pub value : (k : ℕ) → k < l.signals → writes_signal l type k ≡ true → (get_or values k 0 < 2 ^ (l.signal k).width) × (knows l k (get_or values k 0) ≡ true)
  pub mark : (j : ℕ) → j < l.checks → writes_check l type j ≡ true → get_or marks j 0 < 4

-- what a telegram that was composed tells: the list was accepted, the tests passed, and it is what the definition says
pub record Composes (form : ℕ) (xs : List ℕ) (type : ℕ) (values marks telegram : List ℕ) : Type 0 where
  pub counts : Counts
  pub accepted : judge form xs ≡ gives counts
  pub fitting : Fitting (list_of xs counts) type values marks
  pub is : composed (list_of xs counts) type values marks ≡ telegram
