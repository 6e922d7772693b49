-- Request C-15, "Lists accepted before still are and read the same": what the calls answer under a list that is judged by another greatest width.
use Rattle.std.specs.Prelude.{ℕ, ◌≤◌, ◌<◌, ◌≡◌, ◌⊎◌, List}
use Rattle.paper.specs.Octets.{number}
use Rattle.paper.specs.Answer.{Answer}
use Rattle.paper.specs.SignalList.{SignalList, OfTwo, first_refused, second_refused, of_both, of_two, signal_size, signal_at, judge_to, list_of, under_list_to}
use Rattle.paper.specs.Forms.{signals_from}
use Rattle.paper.specs.Reading.{Reading, reading_by}
use Rattle.paper.specs.Marshalling.{Marshalled, marshalling_by}
use Rattle.paper.specs.Composing.{composing_by}

-- "Width 1-48", before the request
abbrev pub widest_before : ℕ
widest_before = 48

-- the calls under that judging
abbrev pub reading_to : ℕ → ℕ → List ℕ → List ℕ → ℕ → ℕ → ℕ → Answer Reading
reading_to most form xs store now v k = under_list_to most form xs (reading_by store now v k)

abbrev pub marshalling_to : ℕ → ℕ → List ℕ → List ℕ → ℕ → List ℕ → Answer Marshalled
marshalling_to most form xs store now bus = under_list_to most form xs (marshalling_by store now bus)

abbrev pub composing_to : ℕ → ℕ → List ℕ → ℕ → List ℕ → List ℕ → ℕ → Answer (List ℕ)
composing_to most form xs type values marks room = under_list_to most form xs (composing_by type values marks room)

abbrev pub under_lists_to : {A : Type 0} → ℕ → ℕ → List ℕ → ℕ → List ℕ → (SignalList → SignalList → A) → OfTwo A
under_lists_to most form xs form' ys call =
    of_two (judge_to most (signal_size form) xs) first_refused
    (λ m. of_two (judge_to most (signal_size form') ys) second_refused (λ n. of_both (call (list_of xs m) (list_of ys n))))

-- no signal's width lies above w and at most at w', in entries of `size` octets
abbrev pub NoneBetween : ℕ → ℕ → ℕ → List ℕ → Type 0
NoneBetween w w' size xs =
    (k : ℕ) → k < number (signals_from xs) 0 2 → ((signal_at size (signals_from xs) k).width ≤ w) ⊎ (w' < (signal_at size (signals_from xs) k).width)
