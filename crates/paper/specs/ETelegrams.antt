-- Document 01, "Train and E-telegrams": reading an E-telegram's code and composing the short answer.
use Rattle.std.specs.Prelude.{Bool, not, cond, ◌||◌, List, [], ◌∷◌, ◌++◌, ℕ, ◌+◌, ltb, eqb, length, get_or}
use Rattle.paper.specs.Octets.{octet, number, octets_of, over}
use Rattle.paper.specs.Answer.{Answer, gives, refuse_if, and_then}
use Rattle.paper.specs.First.{some}

-- "Request codes (source 002, hexadecimal)"
unfoldable pub requests : List ℕ
requests =
    0x1007 ∷ 0x1012 ∷ 0x1013 ∷ 0x1015 ∷ 0x2001 ∷ 0x4002 ∷ 0x4007 ∷ 0x4009 ∷ 0x4011 ∷ 0x4013 ∷ 0x4015 ∷ 0x4020 ∷ 0x4047
    ∷ 0x5003 ∷ 0x5007 ∷ 0x5009 ∷ 0x6002 ∷ 0x7001 ∷ 0x8002 ∷ 0x8003 ∷ 0x8007 ∷ 0x8008 ∷ 0x8009 ∷ 0x8010 ∷ 0x9001 ∷ []

-- "The report to a request has the code plus 0A00."
abbrev pub report_to : ℕ → ℕ
report_to code = code + 0x0A00

unfoldable pub is_request : ℕ → Bool
is_request code = some (λ i. eqb (get_or requests i 0) code) (length requests)

unfoldable pub is_report : ℕ → Bool
is_report code = some (λ i. eqb (report_to (get_or requests i 0)) code) (length requests)

-- "An E-telegram has 9 to 1,024 octets; octets 1-6 are carried unread, 7-8 are the code, 9 the order or status."
abbrev pub e_code : List ℕ → ℕ
e_code telegram = number telegram 6 2

-- the report with remedy texts, telegram 8.8A
abbrev pub remedy_code : ℕ
remedy_code = 0x8A08

-- C-11: "For this code only, the limit behind 21 becomes 2,110 octets."
unfoldable pub e_limit : ℕ → ℕ
e_limit code = cond (eqb code remedy_code) 2110 1024

-- "Reading gives the code, request or report, and octet 9."
pub record EReading : Type 0 where
  pub code : ℕ
  pub report : Bool
  pub status : ℕ

-- 21, 22
unfoldable pub e_reading : List ℕ → Answer EReading
e_reading telegram =
    refuse_if (ltb (length telegram) 9 || ltb (e_limit (e_code telegram)) (length telegram)) 21 0
    (refuse_if (not (is_request (e_code telegram) || is_report (e_code telegram))) 22 0
    (gives (record { code = e_code telegram; report = is_report (e_code telegram); status = octet telegram 9 })))

-- "Answering takes a request, a new 6-octet head and a status, and writes 9 octets; the rest of the output stays."
unfoldable pub answer_to : ℕ → List ℕ → ℕ → List ℕ
answer_to code head status = head ++ (octets_of 2 (report_to code) ++ (status ∷ []))

-- 21, 22, 23 "answer to a report", 24 "head not 6 octets", 25 "output under 9 octets"; else the output afterwards
unfoldable pub answering : List ℕ → List ℕ → ℕ → List ℕ → Answer (List ℕ)
answering telegram head status out =
    and_then (e_reading telegram) (λ r.
    refuse_if r.report 23 0
    (refuse_if (not (eqb (length head) 6)) 24 0
    (refuse_if (ltb (length out) 9) 25 0
    (gives (over out 0 (answer_to r.code head status))))))
