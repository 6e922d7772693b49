-- Each limit that document 01 or a request of document 02 names, at its edge: what is answered at it, and past it. One table, one computed test.
use Rattle.std.specs.Prelude.{ℕ, zero, suc, ◌+◌, ◌*◌, ◌≡◌, refl, List, [], ◌∷◌, ◌++◌, map, take, replicate, set}
use Rattle.std.specs.Float.Ieee.{to_bits, of_bits, round}
use Rattle.paper.specs.Octets.{field, bit, number, octets_of, over, put, puts, set_bit, with_bit}
use Rattle.paper.specs.Answer.{refuse_if, after}
use Rattle.paper.specs.First.{first_from, first_bad, all, some, count, greatest, listed}
use Rattle.paper.specs.Telegrams.{application_type, telegram_type, version_of, rows, place_in}
use Rattle.paper.specs.SignalList
use Rattle.paper.specs.SignalList.{Signal, judge_to, version, has_codes, in_range, known_in, knows, place_of}
use Rattle.paper.specs.Forms.{serial_at, serial_of, narrowed, dropped_from, dropped, spread, widened_from, widened, to_form2, to_form1}
use Rattle.paper.specs.Store.{slot_of, taken, taking, age, gap, gapping, stale, swept_one, swept_to, swept, sweeping}
use Rattle.paper.specs.Reading.{heard, mark_of, code_of, hindrances, reason_of, reading_of, reading_at, reading}
use Rattle.paper.specs.Marshalling.{routed, marshalled, live, marshalling}
use Rattle.paper.specs.Composing.{headed, composed, mark_fits, value_fits, composing}
use Rattle.paper.specs.Relaying.{relay_type, read_live, under, all_live, vouched, relay_mark, relay_value, relaying}
use Rattle.paper.specs.Profiles.{plain_coach, driving_trailer, under_table, signal_broken, route_broken, first_breach, breach_in, profiling}
use Rattle.paper.specs.Shown.{speed, showing}
use Rattle.paper.specs.Train.{no_vehicle, consist_rule, meets, member, set_to, members_of, resolving}
use Rattle.paper.specs.ETelegrams.{requests, is_request, is_report, e_limit, e_reading, answer_to, answering}
use Rattle.paper.specs.Bench.{list_l, list_l2, list_v, telegram, silent}
use Rattle.tables.specs.Marked.{heard_at, raw_at}
use Rattle.tables.specs.Cases.{joined, made, made2, bits, signal, code, route, Question, judges, judges_in, profiles, serials_in, moves_to2, moves_to1, places, takes, gaps, sweeps, reads, marshals, composes, relays, shows, resolves, e_reads, gave, refuses, ask}

pub record Edge : Type 0 where
  pub at : Question
  pub within : List ℕ
  pub past : Question
  pub beyond : List ℕ

abbrev pub edge : Question → List ℕ → Question → List ℕ → Edge
edge at within past beyond = record { at = at; within = within; past = past; beyond = beyond }

-- the same question with a number at the limit and past it
abbrev pub between : (ℕ → Question) → ℕ → List ℕ → ℕ → List ℕ → Edge
between q at within past beyond = edge (q at) within (q past) beyond

-- ---- Lists with one part left open

-- a list of one check; of one signal; of two
abbrev one_check : ℕ → Question
one_check place = judges (made (place ∷ []) [] [] [])

-- n check places, the first at 16
unfoldable pub evens : ℕ → List ℕ
evens zero = []
evens (suc n) = evens n ++ ((16 + 2 * n) ∷ [])

abbrev one_signal : List ℕ → Signal → Question
one_signal checks s = judges (made checks (s ∷ []) [] [])

abbrev two_signals : Signal → Signal → Question
two_signals s t = judges (made [] (s ∷ t ∷ []) [] [])

-- what is given for a list of so many checks, signals, codes and routes, version 1
abbrev counted : ℕ → ℕ → ℕ → ℕ → List ℕ
counted checks signals codes routes = gave (checks ∷ signals ∷ codes ∷ routes ∷ 1 ∷ [])

-- a section that has this count and nothing behind it: within the limit it ends too early (1), past it the count is refused (2)
abbrev opens_checks : ℕ → Question
opens_checks n = judges (octets_of 2 n)

abbrev opens_signals : ℕ → Question
opens_signals n = judges (0 ∷ 0 ∷ octets_of 2 n)

abbrev opens_codes : ℕ → Question
opens_codes n = judges (0 ∷ 0 ∷ 0 ∷ 0 ∷ octets_of 2 n)

abbrev opens_routes : ℕ → Question
opens_routes n = judges (0 ∷ 0 ∷ 0 ∷ 0 ∷ 0 ∷ 0 ∷ octets_of 2 n)

-- a list of one signal with a code range, with two, with a route, with two
abbrev one_code : ℕ → ℕ → ℕ → Question
one_code width low high = judges (made [] (signal 320 width 1 0 1 0 0 ∷ []) (code 0 low high ∷ []) [])

abbrev two_codes : ℕ → Question
two_codes low = judges (made [] (signal 320 8 1 0 1 0 0 ∷ []) (code 0 0 6 ∷ code 0 low 15 ∷ []) [])

abbrev one_route : ℕ → ℕ → ℕ → Question
one_route signal-number vehicle start = judges (made [] (signal 320 8 1 0 1 0 0 ∷ []) [] (route signal-number vehicle start ∷ []))

abbrev two_routes : ℕ → Question
two_routes start = judges (made [] (signal 320 8 1 0 1 0 0 ∷ []) [] (route 0 1 0 ∷ route 0 1 start ∷ []))

-- a list with no entry; one with no check and one signal, of width 0, that ends inside its serial number
abbrev none : List ℕ
none = made [] [] [] []

abbrev cut_serial : List ℕ
cut_serial = take 21 (made2 [] ((signal 320 0 1 0 1 0 0, 0) ∷ []) [] [])

-- a telegram of this head with n octets behind it
abbrev long : ℕ → ℕ → List ℕ
long head n = head ∷ replicate n 0

abbrev offered : ℕ → List ℕ → Question
offered v t = takes silent v 0 t []

-- C-16: vehicle 1 with this heard octet, stamp and previous stamp
abbrev stamped : ℕ → ℕ → ℕ → List ℕ
stamped mark stamp previous = over silent 0 (mark ∷ octets_of 4 stamp ++ octets_of 4 previous)

-- the low octet of the previous stamp once a telegram was taken from vehicle 1 with this heard octet and the stamp 9
abbrev renewed : ℕ → Question
renewed mark = takes (stamped mark 9 4) 1 20 (telegram 0 0) (8 ∷ [])

abbrev again : ℕ → List ℕ → List ℕ
again now store = taken store 1 now (telegram 0 0)

-- a store of n octets
abbrev zeros : ℕ → List ℕ
zeros n = replicate n 0

-- one signal of so many bits, from a bit that starts no octet, composed with a value
abbrev composes_wide : ℕ → ℕ → Question
composes_wide width v = composes (made [] (signal 325 width 1 0 1 0 0 ∷ []) [] []) 1 (v ∷ []) [] (replicate 128 0) []

-- an E-telegram with the code 1007 and n octets behind octet 9
abbrev e_long : ℕ → List ℕ
e_long n = 0 ∷ 0 ∷ 0 ∷ 0 ∷ 0 ∷ 0 ∷ 0x10 ∷ 0x07 ∷ 1 ∷ replicate n 0

-- C-19: one common signal of 8 bits under the check at 16, with this limit; with a route to a bit; one R1 or R2 signal of 4 bits under the check at 320
abbrev limited : ℕ → List ℕ
limited limit = made (16 ∷ []) (signal 24 8 0 1 1 limit 0 ∷ []) [] []

abbrev routed_to : ℕ → List ℕ
routed_to start = made (16 ∷ []) (signal 24 8 0 1 1 5000 0 ∷ []) [] (route 0 1 start ∷ [])

abbrev own_typed : ℕ → ℕ → List ℕ
own_typed type start = made (320 ∷ []) (signal start 4 type 1 1 5000 0 ∷ []) [] []

-- an R1 signal from a bit on, so wide, under the check at a place
abbrev grouped : ℕ → ℕ → ℕ → List ℕ
grouped place start width = made (place ∷ []) (signal start width 1 1 1 5000 0 ∷ []) [] []

unfoldable pub edges : List Edge
edges =
    -- "Checks, at most 64"; "even, 16 to 1022, strictly rising"
    between opens_checks 64 (refuses 1 0) 65 (refuses 2 0)
    ∷ between (λ n. judges (made (evens n) [] [] [])) 64 (counted 64 0 0 0) 65 (refuses 2 0)
    ∷ between one_check 16 (counted 1 0 0 0) 14 (refuses 3 2)
    ∷ between one_check 1022 (counted 1 0 0 0) 1024 (refuses 3 2)
    ∷ between one_check 20 (counted 1 0 0 0) 21 (refuses 3 2)
    ∷ between (λ c. judges (made (100 ∷ c ∷ []) [] [] [])) 102 (counted 2 0 0 0) 100 (refuses 3 4)
    -- "Signals, at most 256"; C-15: "widths run from 1 to 64"
    ∷ between opens_signals 256 (refuses 1 2) 257 (refuses 2 2)
    ∷ between (λ w. one_signal [] (signal 320 w 1 0 1 0 0)) 64 (counted 0 1 0 0) 65 (refuses 3 4)
    ∷ between (λ w. one_signal [] (signal 320 w 1 0 1 0 0)) 1 (counted 0 1 0 0) 0 (refuses 3 4)
    -- "Type 0 (common) lies wholly in addresses 16-319; type 1 (R1) or 2 (R2) wholly in 320-1023"
    ∷ between (λ t. one_signal [] (signal 320 1 t 0 1 0 0)) 2 (counted 0 1 0 0) 3 (refuses 3 4)
    ∷ between (λ s. one_signal [] (signal s 8 0 0 1 0 0)) 16 (counted 0 1 0 0) 15 (refuses 3 4)
    ∷ between (λ s. one_signal [] (signal s 8 0 0 1 0 0)) 312 (counted 0 1 0 0) 313 (refuses 3 4)
    ∷ between (λ s. one_signal [] (signal s 64 0 0 1 0 0)) 256 (counted 0 1 0 0) 257 (refuses 3 4)
    ∷ between (λ s. one_signal [] (signal s 8 1 0 1 0 0)) 320 (counted 0 1 0 0) 319 (refuses 3 4)
    ∷ between (λ s. one_signal [] (signal s 8 2 0 1 0 0)) 1016 (counted 0 1 0 0) 1017 (refuses 3 4)
    -- "Check 0 is none, k names the k-th check, which exists and lies below 320 exactly if the type is 0"
    ∷ between (λ k. one_signal (320 ∷ []) (signal 400 8 1 k 1 0 0)) 1 (counted 1 1 0 0) 2 (refuses 3 6)
    ∷ between (λ c. one_signal (c ∷ []) (signal 100 8 0 1 1 0 0)) 318 (counted 1 1 0 0) 320 (refuses 3 6)
    ∷ between (λ c. one_signal (c ∷ []) (signal 400 8 1 1 1 0 0)) 320 (counted 1 1 0 0) 318 (refuses 3 6)
    -- "Since 1-255. Limit 0-600,000 .. Replacement below 2^width": no octet is above 255
    ∷ between (λ n. one_signal [] (signal 320 8 1 0 n 0 0)) 1 (counted 0 1 0 0) 0 (refuses 3 4)
    ∷ edge (one_signal [] (signal 320 8 1 0 255 0 0)) (gave (0 ∷ 1 ∷ 0 ∷ 0 ∷ 255 ∷ [])) (one_signal [] (signal 320 8 1 0 256 0 0)) (refuses 3 4)
    ∷ between (λ n. one_signal [] (signal 320 8 1 0 1 n 0)) 600000 (counted 0 1 0 0) 600001 (refuses 3 4)
    ∷ between (λ n. one_signal [] (signal 320 8 1 0 1 0 n)) 255 (counted 0 1 0 0) 256 (refuses 3 4)
    ∷ between (λ n. one_signal [] (signal 320 47 1 0 1 0 n)) 0x7FFFFFFFFFFF (counted 0 1 0 0) 0x800000000000 (refuses 3 4)
    -- "Types never fall"; "each start is at or past the end of the field before"; "No field shares a bit with any check"
    ∷ between (λ t. two_signals (signal 320 8 1 0 1 0 0) (signal 400 8 t 0 1 0 0)) 1 (counted 0 2 0 0) 0 (refuses 3 20)
    ∷ between (λ s. two_signals (signal 320 8 2 0 1 0 0) (signal s 8 2 0 1 0 0)) 328 (counted 0 2 0 0) 327 (refuses 3 20)
    ∷ between (λ s. one_signal (408 ∷ []) (signal s 8 1 0 1 0 0)) 400 (counted 1 1 0 0) 401 (refuses 3 6)
    ∷ between (λ s. one_signal (408 ∷ []) (signal s 8 1 0 1 0 0)) 410 (counted 1 1 0 0) 409 (refuses 3 6)
    -- "Known codes, at most 512"; "width at most 16; low ≤ high < 2^width"; "low exceeds the previous high by at least 2"
    ∷ between opens_codes 512 (refuses 1 4) 513 (refuses 2 4)
    ∷ between (λ k. judges (made [] (signal 320 8 1 0 1 0 0 ∷ []) (code k 0 0 ∷ []) [])) 0 (counted 0 1 1 0) 1 (refuses 3 22)
    ∷ between (λ w. one_code w 0 0) 16 (counted 0 1 1 0) 17 (refuses 3 22)
    ∷ between (λ low. one_code 8 low 4) 4 (counted 0 1 1 0) 5 (refuses 3 22)
    ∷ between (λ high. one_code 4 0 high) 15 (counted 0 1 1 0) 16 (refuses 3 22)
    ∷ between two_codes 8 (counted 0 1 2 0) 7 (refuses 3 28)
    -- "Routes, at most 512"; "vehicle 1-63 (1), zero (1)"; "ends at or before bit 2048"; "at or past the end of the route before"
    ∷ between opens_routes 512 (refuses 1 6) 513 (refuses 2 6)
    ∷ between (λ k. one_route k 1 0) 0 (counted 0 1 0 1) 1 (refuses 3 24)
    ∷ between (λ v. one_route 0 v 0) 1 (counted 0 1 0 1) 0 (refuses 3 24)
    ∷ between (λ v. one_route 0 v 0) 63 (counted 0 1 0 1) 64 (refuses 3 24)
    ∷ between (λ z. judges (set list_l 41 z)) 0 (counted 1 1 2 1) 1 (refuses 3 38)
    ∷ between (λ s. one_route 0 1 s) 2040 (counted 0 1 0 1) 2041 (refuses 3 24)
    ∷ between (λ s. judges (made [] (signal 320 64 1 0 1 0 0 ∷ []) [] (route 0 1 s ∷ []))) 1984 (counted 0 1 0 1) 1985 (refuses 3 24)
    ∷ between two_routes 8 (counted 0 1 0 2) 7 (refuses 3 30)
    -- 1, 2 and 4: a count, its entries, and what is behind the routes
    ∷ edge (judges (take 44 list_l)) (counted 1 1 2 1) (judges (take 37 list_l)) (refuses 1 36)
    ∷ edge (judges (take 44 list_l)) (counted 1 1 2 1) (judges (take 21 list_l)) (refuses 1 4)
    ∷ edge (judges list_l) (counted 1 1 2 1) (judges (list_l ++ (0 ∷ []))) (refuses 4 44)
    -- C-18: a signal entry of 18 octets, cut inside its serial number and inside the rest
    ∷ between (λ n. judges_in 2 (take n (list_l2 7))) 46 (counted 1 1 2 1) 45 (refuses 1 38)
    ∷ between (λ n. judges_in 2 (take n (list_l2 7))) 24 (refuses 1 24) 23 (refuses 1 4)
    ∷ between (λ n. judges_in 2 (take n (list_l2 7))) 24 (refuses 1 24) 21 (refuses 1 4)
    ∷ edge (judges_in 2 (list_l2 7)) (counted 1 1 2 1) (judges_in 2 (list_l2 7 ++ (0 ∷ []))) (refuses 4 46)
    -- a list that ends inside a serial number is 1 at the signals' count, whatever it is without it: here 3 at the entry
    ∷ edge (judges_in 2 cut_serial) (refuses 1 2) (judges_in 1 (dropped cut_serial)) (refuses 3 4)
    -- a list that ends as form 1 has it and too early for form 2; one that ends as form 2 has it and too late for form 1; by its form, which is 1
    -- unless the caller says 2
    ∷ between (λ form. judges_in form (made [] (signal 320 8 1 0 1 0 0 ∷ []) [] [])) 1 (counted 0 1 0 0) 2 (refuses 1 24)
    ∷ between (λ form. judges_in form (made2 [] ((signal 320 8 1 0 1 0 0, 0) ∷ []) [] [])) 2 (counted 0 1 0 0) 1 (refuses 4 24)
    ∷ between (λ form. judges_in form (made2 [] ((signal 320 8 1 0 1 0 0, 0) ∷ []) [] [])) 2 (counted 0 1 0 0) 3 (refuses 4 24)
    ∷ between (λ form. judges_in form (made [] (signal 320 8 1 0 1 0 0 ∷ []) [] [])) 0 (counted 0 1 0 0) 2 (refuses 1 24)
    -- "Moving to form 2 writes 0s; moving back needs every serial number 0"; 33 "output not of the needed length"
    ∷ between (λ n. moves_to2 list_l (replicate n 0xEE)) 46 (gave (list_l2 0)) 45 (refuses 33 0 ++ replicate 45 0xEE)
    ∷ between (λ n. moves_to2 list_l (replicate n 0xEE)) 46 (gave (list_l2 0)) 47 (refuses 33 0 ++ replicate 47 0xEE)
    ∷ between (λ n. moves_to1 (list_l2 0) (replicate n 0xEE)) 44 (gave list_l) 43 (refuses 33 0 ++ replicate 43 0xEE)
    ∷ between (λ n. moves_to1 (list_l2 0) (replicate n 0xEE)) 44 (gave list_l) 45 (refuses 33 0 ++ replicate 45 0xEE)
    ∷ between (λ serial. moves_to1 (list_l2 serial) (replicate 44 0xEE)) 0 (gave list_l) 1 (refuses 32 0 ++ replicate 44 0xEE)
    ∷ between (λ serial. moves_to1 (list_l2 serial) (replicate 44 0xEE)) 0 (gave list_l) 0x8000 (refuses 32 0 ++ replicate 44 0xEE)
    ∷ edge (moves_to2 none (replicate 8 0xEE)) (gave none) (moves_to2 none []) (refuses 33 0)
    ∷ edge (moves_to1 none (replicate 8 0xEE)) (gave none) (moves_to1 none []) (refuses 33 0)
    -- of two faults the first is told: 1-4, then 32, then 33
    ∷ edge (moves_to1 (list_l2 7) []) (refuses 32 0) (moves_to1 (list_l2 7 ++ (0 ∷ [])) []) (refuses 4 46)
    ∷ edge (moves_to2 list_l []) (refuses 33 0) (moves_to2 (take 43 list_l) []) (refuses 1 36)
    -- the serial number of a signal: 16 bits, of a signal that is there
    ∷ between (serials_in 2 (list_l2 0xFFFF)) 0 (gave (0xFFFF ∷ [])) 1 (refuses 11 0)
    -- the store, its vehicles, and telegrams
    ∷ edge (offered 1 (telegram 0 0)) (gave []) (takes (0 ∷ silent) 1 0 (telegram 0 0) []) (refuses 5 0)
    ∷ between (λ v. offered v (telegram 0 0)) 1 (gave []) 0 (refuses 6 0)
    ∷ between (λ v. offered v (telegram 0 0)) 63 (gave []) 64 (refuses 6 0)
    ∷ edge (offered 1 (0x13 ∷ 0 ∷ [])) (refuses 10 0) (offered 1 (0x13 ∷ [])) (refuses 7 0)
    ∷ between (λ head. offered 1 (long head 127)) 0x11 (gave []) 0x21 (refuses 8 0)
    ∷ between (λ head. offered 1 (long head 127)) 0x12 (gave []) 0x10 (refuses 9 0)
    ∷ between (λ head. offered 1 (long head 39)) 0x13 (gave []) 0x14 (refuses 9 0)
    ∷ between (λ n. offered 1 (long 0x11 n)) 127 (gave []) 126 (refuses 10 0)
    ∷ between (λ n. offered 1 (long 0x13 n)) 39 (gave []) 40 (refuses 10 0)
    -- C-16: "Taking a telegram into a slot with heard octet 1 or 2 moves its stamp there; into any other it writes 0"
    ∷ between renewed 1 (gave (9 ∷ [])) 0 (gave (0 ∷ []))
    ∷ between renewed 2 (gave (9 ∷ [])) 3 (gave (0 ∷ []))
    ∷ between renewed 2 (gave (9 ∷ [])) 255 (gave (0 ∷ []))
    -- "A read of the gap gives stamp less previous stamp, modulo 4,294,967,296. For any other heard octet the gap is 0."
    ∷ between (λ mark. gaps (stamped mark 9 4) 1) 1 (gave (5 ∷ [])) 0 (gave (0 ∷ []))
    ∷ between (λ mark. gaps (stamped mark 9 4) 1) 2 (gave (5 ∷ [])) 3 (gave (0 ∷ []))
    ∷ between (λ mark. gaps (stamped mark 9 4) 1) 2 (gave (5 ∷ [])) 255 (gave (0 ∷ []))
    ∷ between (λ stamp. gaps (stamped 1 stamp 4) 1) 4 (gave (0 ∷ [])) 3 (gave (4294967295 ∷ []))
    ∷ between (λ previous. gaps (stamped 1 4294967295 previous) 1) 0 (gave (4294967295 ∷ [])) 4294967295 (gave (0 ∷ []))
    -- the first telegram and the second, the counter having come round; a sweep after the first, and the second behind it
    ∷ edge (gaps (heard_at 0 0 4294967294) 1) (gave (4294967294 ∷ [])) (gaps (again 3 (heard_at 0 0 4294967294)) 1) (gave (5 ∷ []))
    ∷ edge (gaps (swept (heard_at 0 0 9) 600010) 1) (gave (9 ∷ [])) (gaps (again 600020 (swept (heard_at 0 0 9) 600010)) 1) (gave (600011 ∷ []))
    -- "Refusal 5 now means not 8,631 octets", everywhere, and not the 8,379 of before; 6; of both, 5
    ∷ between (gaps silent) 1 (gave (0 ∷ [])) 0 (refuses 6 0)
    ∷ between (gaps silent) 63 (gave (0 ∷ [])) 64 (refuses 6 0)
    ∷ between (λ n. gaps (zeros n) 1) 8631 (gave (0 ∷ [])) 8379 (refuses 5 0)
    ∷ between (λ n. gaps (zeros n) 1) 8631 (gave (0 ∷ [])) 8630 (refuses 5 0)
    ∷ between (λ n. gaps (zeros n) 64) 8631 (refuses 6 0) 8632 (refuses 5 0)
    ∷ between (λ n. takes (zeros n) 1 0 (telegram 0 0) []) 8631 (gave []) 8379 (refuses 5 0)
    ∷ between (λ n. sweeps (zeros n) 0 []) 8631 (gave []) 8379 (refuses 5 0)
    ∷ between (λ n. reads list_l (zeros n) 0 1 0) 8631 (gave (0 ∷ 2 ∷ [])) 8379 (refuses 5 0)
    ∷ between (λ n. shows (list_v 16 64) (zeros n) 0 1 0 speed) 8631 (gave (1 ∷ 0x3F800000 ∷ 2 ∷ [])) 8379 (refuses 5 0)
    ∷ between (λ n. relays list_l (zeros n) 0 1 (0xEE ∷ []) (0 ∷ [])) 8631 (refuses 9 0 ++ (0xEE ∷ [])) 8379 (refuses 5 0 ++ (0xEE ∷ []))
    ∷ between (λ n. marshals list_l (zeros n) 0 (0 ∷ [])) 8631 (gave (0 ∷ 0 ∷ [])) 8379 (refuses 5 0 ++ (0 ∷ []))
    -- C-12: "a heard slot whose age is above 600,000 ms"; "Refusals: 5"
    ∷ between (λ now. sweeps (heard_at 0x10 0x40 0) now (0 ∷ [])) 600000 (gave (1 ∷ [])) 600001 (gave (2 ∷ []))
    ∷ edge (sweeps silent 0 []) (gave []) (sweeps (0 ∷ silent) 0 []) (refuses 5 0)
    -- reading and marshalling
    ∷ between (λ k. reads list_l (heard_at 0x10 0x40 0) 0 1 k) 0 (gave (4 ∷ 0 ∷ [])) 1 (refuses 11 0)
    ∷ between (λ now. reads list_l (heard_at 0x10 0x40 0) now 1 0) 5000 (gave (4 ∷ 0 ∷ [])) 5001 (gave (0 ∷ 3 ∷ []))
    ∷ between (λ s. marshals (set list_l 43 s) (heard_at 0x10 0x40 0) 0 (0 ∷ [])) 4 (gave (1 ∷ 4 ∷ [])) 5 (refuses 12 0 ++ (0 ∷ []))
    -- composing
    ∷ between (λ t. composes list_l t (0 ∷ []) (1 ∷ []) (replicate 128 0) []) 2 (gave []) 0 (refuses 9 0)
    ∷ between (λ t. composes list_l t (0 ∷ []) (1 ∷ []) (replicate 40 0) []) 3 (gave []) 4 (refuses 9 0)
    ∷ between (λ n. composes list_l 1 (replicate n 0) (1 ∷ []) (replicate 128 0) []) 1 (gave []) 2 (refuses 13 0)
    ∷ between (λ n. composes list_l 1 (0 ∷ []) (replicate n 1) (replicate 128 0) []) 1 (gave []) 0 (refuses 13 0)
    ∷ between (λ m. composes list_l 1 (0 ∷ []) (m ∷ []) (replicate 128 0) []) 3 (gave []) 4 (refuses 14 0)
    ∷ between (λ v. composes list_l 1 (v ∷ []) (1 ∷ []) (replicate 128 0) []) 15 (gave []) 16 (refuses 15 0)
    ∷ between (λ v. composes list_l 1 (v ∷ []) (1 ∷ []) (replicate 128 0) []) 6 (gave []) 7 (refuses 15 0)
    ∷ between (composes_wide 49) 0x1FFFFFFFFFFFF (gave []) 0x2000000000000 (refuses 15 0)
    ∷ between (composes_wide 63) 0x7FFFFFFFFFFFFFFF (gave []) 0x8000000000000000 (refuses 15 0)
    ∷ between (composes_wide 64) 0xFFFFFFFFFFFFFFFF (gave []) 0x10000000000000000 (refuses 15 0)
    ∷ between (λ n. composes list_l 1 (0 ∷ []) (1 ∷ []) (replicate n 0) []) 128 (gave []) 127 (refuses 16 0)
    -- C-24: relaying what vehicle 63 was heard saying, and vehicle 64; into an output of its type's length, and one octet less; with the replacement 6, which the
    -- list knows, and 7, which it doesn't
    ∷ between (λ v. relays list_l (after silent (taking silent 63 0 (telegram 0x10 0x40))) 0 v (replicate 128 0xEE) (53 ∷ [])) 63 (gave (0x40 ∷ [])) 64 (refuses 6 0 ++ (0xEE ∷ []))
    ∷ between (λ n. relays list_l (heard_at 0x10 0x40 0) 0 1 (replicate n 0xEE) (40 ∷ [])) 128 (gave (0x10 ∷ [])) 127 (refuses 16 0 ++ (0xEE ∷ []))
    ∷ between (λ r. relays (set list_l 21 r) (heard_at 0x10 0x70 0) 0 1 (replicate 128 0xEE) (40 ∷ 53 ∷ [])) 6 (gave (0x00 ∷ 0x60 ∷ [])) 7
    (refuses 15 0 ++ (0xEE ∷ 0xEE ∷ []))
    -- C-19: "only type 0 signals, at most 64"; "a time limit from 1 to 5,000 ms"; "at most 16 octets of destination data"; "octets 47-73 and wholly
    -- under the check place"
    ∷ edge (profiles plain_coach (limited 5000)) (counted 1 1 0 0) (profiles plain_coach (own_typed 1 368)) (refuses 34 6)
    ∷ between (λ t. profiles driving_trailer (own_typed t 368)) 1 (counted 1 1 0 0) 2 (refuses 34 6)
    ∷ between (λ n. profiles plain_coach (made (16 ∷ []) (bits n) [] [])) 64 (counted 1 64 0 0) 65 (refuses 34 1030)
    ∷ between (λ limit. profiles plain_coach (limited limit)) 1 (counted 1 1 0 0) 0 (refuses 34 6)
    ∷ between (λ limit. profiles plain_coach (limited limit)) 5000 (counted 1 1 0 0) 5001 (refuses 34 6)
    ∷ between (λ limit. profiles driving_trailer (limited limit)) 5000 (counted 1 1 0 0) 5001 (refuses 34 6)
    ∷ between (λ start. profiles plain_coach (routed_to start)) 120 (counted 1 1 0 1) 121 (refuses 34 26)
    ∷ between (λ start. profiles driving_trailer (own_typed 1 start)) 368 (counted 1 1 0 0) 367 (refuses 34 6)
    ∷ between (λ width. profiles driving_trailer (grouped 352 576 width)) 8 (counted 1 1 0 0) 9 (refuses 34 6)
    ∷ between (λ width. profiles driving_trailer (grouped 324 456 width)) 8 (counted 1 1 0 0) 9 (refuses 34 6)
    ∷ between (λ place. profiles driving_trailer (grouped place 368 4)) 320 (counted 1 1 0 0) 322 (refuses 34 6)
    -- shown; the grouping; the train; E-telegrams
    ∷ between (λ w. shows (list_v w 0) (raw_at 128) 5000 1 0 speed) 16 (gave (1 ∷ 0x40000000 ∷ 0 ∷ [])) 15 (refuses 26 0)
    ∷ between (λ w. shows (list_v w 0) (raw_at 128) 5000 1 0 speed) 16 (gave (1 ∷ 0x40000000 ∷ 0 ∷ [])) 17 (refuses 26 0)
    ∷ between (λ raw. shows (list_v 16 0) (raw_at raw) 5000 1 0 speed) 65535 (gave (1 ∷ 0x447FFF00 ∷ 0 ∷ [])) 0 (gave (1 ∷ 0 ∷ 0 ∷ []))
    ∷ between places 368 (gave (320 ∷ [])) 367 (refuses 27 0)
    ∷ between places 583 (gave (352 ∷ [])) 584 (refuses 27 0)
    ∷ between (λ n. resolves (replicate n no_vehicle) 1) 1 (gave (2 ∷ 1 ∷ [])) 0 (refuses 17 0)
    ∷ between (λ n. resolves (replicate n no_vehicle) 1) 63 (gave (2 ∷ 1 ∷ [])) 64 (refuses 17 0)
    ∷ between (resolves (replicate 2 no_vehicle)) 2 (gave (4 ∷ 1 ∷ [])) 3 (refuses 20 0)
    ∷ between (resolves (replicate 2 no_vehicle)) 66 (gave (6 ∷ 2 ∷ [])) 68 (refuses 19 0)
    ∷ between (resolves (replicate 2 no_vehicle)) 1 (gave (2 ∷ 1 ∷ [])) 0 (refuses 19 0)
    ∷ between (λ n. e_reads (e_long n)) 1015 (gave (0x1007 ∷ 0 ∷ 1 ∷ [])) 1016 (refuses 21 0)
    ∷ edge (e_reads (take 9 (e_long 0))) (gave (0x1007 ∷ 0 ∷ 1 ∷ [])) (e_reads (take 8 (e_long 0))) (refuses 21 0)
    ∷ between (λ low. e_reads (set (e_long 0) 7 low)) 0x07 (gave (0x1007 ∷ 0 ∷ 1 ∷ [])) 0x08 (refuses 22 0)
    ∷ []

-- the one computed test: the table with its answers worked out is the table
pub at_each_edge : map (λ e. edge e.at (ask e.at) e.past (ask e.past)) edges ≡ edges
unfolding edges evens bits joined made made2 ask list_l list_l2 list_v raw_at serial_at serial_of narrowed dropped_from dropped spread widened_from widened to_form2 to_form1 telegram silent heard_at bit field with_bit set_bit put puts number octets_of over refuse_if first_from first_bad all
    some count greatest application_type telegram_type version_of rows place_in SignalList.check_at SignalList.signal_size SignalList.signal_at SignalList.among SignalList.code_at SignalList.route_at
    SignalList.check_rule SignalList.signal_rule_to SignalList.code_rule SignalList.route_rule SignalList.opening SignalList.judge_entries SignalList.judge_section
    SignalList.greatest_since SignalList.ending SignalList.from_routes SignalList.from_codes SignalList.from_signals_to judge_to has_codes in_range known_in knows
    place_of version slot_of taken taking age gap gapping stale swept_one swept_to sweeping heard mark_of code_of hindrances reason_of reading_of reading_at reading routed marshalled live marshalling headed
    composed mark_fits value_fits composing relay_type read_live under all_live vouched relay_mark relay_value relaying under_table signal_broken route_broken first_breach breach_in profiling listed showing of_bits round to_bits consist_rule meets member set_to members_of resolving requests is_request is_report
    e_limit e_reading answer_to answering
at_each_edge = refl
