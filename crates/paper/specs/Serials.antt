-- Request C-18, "that number packed by us, 0 for none": how a serial number of Appendix A stands in 16 bits, and how it is read back. The
-- library has no rule for it and hands on any 16 bits; the lists of data/ and the programs go by this.
use Rattle.std.specs.Prelude.{ℕ, zero, suc, ◌+◌, ◌*◌, ◌/◌, ◌%◌, ◌≤◌, ◌<◌, ◌≡◌, refl, Bool, true, cond, ◌&&◌, List, [], ◌∷◌, ◌++◌, map, get_or, ltb, eqb}
use Prim.Native.String.{String, len, char_at}
use Prim.Native.Char.{code}

-- 4.3, 4.46/2, 4.7R, 4.2R/1e: a group, a number in it, letters, and a variant behind a stroke, 0 for none
pub record Serial : Type 0 where
  pub group : ℕ
  pub number : ℕ
  pub letters : ℕ
  pub variant : ℕ

-- the letters by number: none; R and M behind the number, or R there with d or e behind the variant; E and A, which no signal has, as Appendix A
-- gives them to E-telegrams; 7 is free
abbrev pub no_letter : ℕ
no_letter = 0

abbrev pub letter_R : ℕ
letter_R = 1

abbrev pub letter_M : ℕ
letter_M = 2

abbrev pub letters_R_d : ℕ
letters_R_d = 3

abbrev pub letters_R_e : ℕ
letters_R_e = 4

abbrev pub letter_E : ℕ
letter_E = 5

abbrev pub letter_A : ℕ
letter_A = 6

-- what 16 bits hold: no number is 0, so that no serial number is packed to 0
pub record Packable (s : Serial) : Type 0 where
  pub group : s.group < 16
  pub some : 1 ≤ s.number
  pub number : s.number < 64
  pub letters : s.letters < 8
  pub variant : s.variant < 8

-- four bits, six, three and three, high first
unfoldable pub packed : Serial → ℕ
packed s = ((s.group * 64 + s.number) * 8 + s.letters) * 8 + s.variant

unfoldable pub unpacked : ℕ → Serial
unpacked n = record { group = n / 4096; number = n / 64 % 64; letters = n / 8 % 8; variant = n % 8 }

-- ---- As it is printed, in ASCII octets

-- of a number below 100
abbrev pub decimal : ℕ → List ℕ
decimal n = cond (ltb n 10) ((48 + n) ∷ []) ((48 + n / 10) ∷ (48 + n % 10) ∷ [])

abbrev pub behind_number : ℕ → List ℕ
behind_number letters = get_or ([] ∷ (0x52 ∷ []) ∷ (0x4D ∷ []) ∷ (0x52 ∷ []) ∷ (0x52 ∷ []) ∷ (0x45 ∷ []) ∷ (0x41 ∷ []) ∷ []) letters []

abbrev pub behind_variant : ℕ → List ℕ
behind_variant letters = get_or ([] ∷ [] ∷ [] ∷ (0x64 ∷ []) ∷ (0x65 ∷ []) ∷ []) letters []

unfoldable pub printed : Serial → List ℕ
printed s =
    decimal s.group ++ (0x2E ∷ decimal s.number) ++ behind_number s.letters
    ++ cond (eqb s.variant 0) [] (0x2F ∷ (48 + s.variant) ∷ [])
    ++ behind_variant s.letters

-- ---- The numbers of the real list

-- as Appendix A prints it, its parts, and what it is packed to
pub record Row : Type 0 where
  pub name : String
  pub parts : Serial
  pub number : ℕ

abbrev row : String → ℕ → ℕ → ℕ → ℕ → ℕ → Row
row name group number letters variant n =
    record { name = name; parts = record { group = group; number = number; letters = letters; variant = variant }; number = n }

-- the 119 numbers that the signals of data/signals.csv have: a signal for which none is printed, or none that can be read, has none, which is 0
unfoldable pub real : List Row
real =
    row "1.1/1" 1 1 no_letter 1 0x1041
    ∷ row "1.1/2" 1 1 no_letter 2 0x1042
    ∷ row "1.2" 1 2 no_letter 0 0x1080
    ∷ row "1.3" 1 3 no_letter 0 0x10C0
    ∷ row "1.9" 1 9 no_letter 0 0x1240
    ∷ row "1.10" 1 10 no_letter 0 0x1280
    ∷ row "1.11" 1 11 no_letter 0 0x12C0
    ∷ row "1.16" 1 16 no_letter 0 0x1400
    ∷ row "1.17" 1 17 no_letter 0 0x1440
    ∷ row "1.18" 1 18 no_letter 0 0x1480
    ∷ row "1.19" 1 19 no_letter 0 0x14C0
    ∷ row "2.2" 2 2 no_letter 0 0x2080
    ∷ row "3.1" 3 1 no_letter 0 0x3040
    ∷ row "3.2" 3 2 no_letter 0 0x3080
    ∷ row "3.3" 3 3 no_letter 0 0x30C0
    ∷ row "3.4" 3 4 no_letter 0 0x3100
    ∷ row "3.5" 3 5 no_letter 0 0x3140
    ∷ row "3.6" 3 6 no_letter 0 0x3180
    ∷ row "3.7" 3 7 no_letter 0 0x31C0
    ∷ row "4.1" 4 1 no_letter 0 0x4040
    ∷ row "4.2" 4 2 no_letter 0 0x4080
    ∷ row "4.2R/2" 4 2 letter_R 2 0x408A
    ∷ row "4.2R/3" 4 2 letter_R 3 0x408B
    ∷ row "4.2R/4" 4 2 letter_R 4 0x408C
    ∷ row "4.2M/1" 4 2 letter_M 1 0x4091
    ∷ row "4.2M/2" 4 2 letter_M 2 0x4092
    ∷ row "4.2M/3" 4 2 letter_M 3 0x4093
    ∷ row "4.2M/4" 4 2 letter_M 4 0x4094
    ∷ row "4.2R/1d" 4 2 letters_R_d 1 0x4099
    ∷ row "4.2R/1e" 4 2 letters_R_e 1 0x40A1
    ∷ row "4.3" 4 3 no_letter 0 0x40C0
    ∷ row "4.4" 4 4 no_letter 0 0x4100
    ∷ row "4.5" 4 5 no_letter 0 0x4140
    ∷ row "4.5/1" 4 5 no_letter 1 0x4141
    ∷ row "4.5/2" 4 5 no_letter 2 0x4142
    ∷ row "4.5/3" 4 5 no_letter 3 0x4143
    ∷ row "4.5/4" 4 5 no_letter 4 0x4144
    ∷ row "4.5/5" 4 5 no_letter 5 0x4145
    ∷ row "4.5/6" 4 5 no_letter 6 0x4146
    ∷ row "4.6" 4 6 no_letter 0 0x4180
    ∷ row "4.7/2" 4 7 no_letter 2 0x41C2
    ∷ row "4.7R" 4 7 letter_R 0 0x41C8
    ∷ row "4.8/1" 4 8 no_letter 1 0x4201
    ∷ row "4.8/2" 4 8 no_letter 2 0x4202
    ∷ row "4.9R" 4 9 letter_R 0 0x4248
    ∷ row "4.10" 4 10 no_letter 0 0x4280
    ∷ row "4.11R" 4 11 letter_R 0 0x42C8
    ∷ row "4.12/1" 4 12 no_letter 1 0x4301
    ∷ row "4.12/2" 4 12 no_letter 2 0x4302
    ∷ row "4.13R" 4 13 letter_R 0 0x4348
    ∷ row "4.14/1" 4 14 no_letter 1 0x4381
    ∷ row "4.14/2" 4 14 no_letter 2 0x4382
    ∷ row "4.15/2" 4 15 no_letter 2 0x43C2
    ∷ row "4.15R" 4 15 letter_R 0 0x43C8
    ∷ row "4.16" 4 16 no_letter 0 0x4400
    ∷ row "4.17" 4 17 no_letter 0 0x4440
    ∷ row "4.19" 4 19 no_letter 0 0x44C0
    ∷ row "4.21" 4 21 no_letter 0 0x4540
    ∷ row "4.22" 4 22 no_letter 0 0x4580
    ∷ row "4.23/1" 4 23 no_letter 1 0x45C1
    ∷ row "4.23/2" 4 23 no_letter 2 0x45C2
    ∷ row "4.24" 4 24 no_letter 0 0x4600
    ∷ row "4.25" 4 25 no_letter 0 0x4640
    ∷ row "4.26" 4 26 no_letter 0 0x4680
    ∷ row "4.27" 4 27 no_letter 0 0x46C0
    ∷ row "4.28" 4 28 no_letter 0 0x4700
    ∷ row "4.29/1" 4 29 no_letter 1 0x4741
    ∷ row "4.29/2" 4 29 no_letter 2 0x4742
    ∷ row "4.30" 4 30 no_letter 0 0x4780
    ∷ row "4.32" 4 32 no_letter 0 0x4800
    ∷ row "4.33/1" 4 33 no_letter 1 0x4841
    ∷ row "4.33/2" 4 33 no_letter 2 0x4842
    ∷ row "4.34/1" 4 34 no_letter 1 0x4881
    ∷ row "4.34/2" 4 34 no_letter 2 0x4882
    ∷ row "4.35" 4 35 no_letter 0 0x48C0
    ∷ row "4.36/1" 4 36 no_letter 1 0x4901
    ∷ row "4.36/2" 4 36 no_letter 2 0x4902
    ∷ row "4.37" 4 37 no_letter 0 0x4940
    ∷ row "4.38/1" 4 38 no_letter 1 0x4981
    ∷ row "4.38/2" 4 38 no_letter 2 0x4982
    ∷ row "4.39" 4 39 no_letter 0 0x49C0
    ∷ row "4.40" 4 40 no_letter 0 0x4A00
    ∷ row "4.41" 4 41 no_letter 0 0x4A40
    ∷ row "4.42" 4 42 no_letter 0 0x4A80
    ∷ row "4.43" 4 43 no_letter 0 0x4AC0
    ∷ row "4.44" 4 44 no_letter 0 0x4B00
    ∷ row "4.45/1" 4 45 no_letter 1 0x4B41
    ∷ row "4.45/2" 4 45 no_letter 2 0x4B42
    ∷ row "4.46/1" 4 46 no_letter 1 0x4B81
    ∷ row "4.46/2" 4 46 no_letter 2 0x4B82
    ∷ row "4.46/3" 4 46 no_letter 3 0x4B83
    ∷ row "4.46/4" 4 46 no_letter 4 0x4B84
    ∷ row "4.48" 4 48 no_letter 0 0x4C00
    ∷ row "4.49" 4 49 no_letter 0 0x4C40
    ∷ row "4.50" 4 50 no_letter 0 0x4C80
    ∷ row "5.1" 5 1 no_letter 0 0x5040
    ∷ row "5.2/1" 5 2 no_letter 1 0x5081
    ∷ row "5.2/2" 5 2 no_letter 2 0x5082
    ∷ row "5.4" 5 4 no_letter 0 0x5100
    ∷ row "5.5/1" 5 5 no_letter 1 0x5141
    ∷ row "5.5/2" 5 5 no_letter 2 0x5142
    ∷ row "5.6" 5 6 no_letter 0 0x5180
    ∷ row "5.7" 5 7 no_letter 0 0x51C0
    ∷ row "5.8" 5 8 no_letter 0 0x5200
    ∷ row "5.9" 5 9 no_letter 0 0x5240
    ∷ row "5.10" 5 10 no_letter 0 0x5280
    ∷ row "5.12" 5 12 no_letter 0 0x5300
    ∷ row "5.13" 5 13 no_letter 0 0x5340
    ∷ row "5.14" 5 14 no_letter 0 0x5380
    ∷ row "5.15" 5 15 no_letter 0 0x53C0
    ∷ row "5.16" 5 16 no_letter 0 0x5400
    ∷ row "6.1" 6 1 no_letter 0 0x6040
    ∷ row "6.4" 6 4 no_letter 0 0x6100
    ∷ row "6.5" 6 5 no_letter 0 0x6140
    ∷ row "8.1" 8 1 no_letter 0 0x8040
    ∷ row "8.4R" 8 4 letter_R 0 0x8108
    ∷ row "9.9" 9 9 no_letter 0 0x9240
    ∷ row "10.1R" 10 1 letter_R 0 0xA048
    ∷ row "10.2" 10 2 no_letter 0 0xA080
    ∷ []

-- the octets of a text
unfoldable pub text_from : String → ℕ → ℕ → List ℕ
text_from t zero i = []
text_from t (suc n) i = code (char_at t i) ∷ text_from t n (suc i)

pub record Told : Type 0 where
  pub prints : List ℕ
  pub packs : ℕ
  pub unpacks : Serial
  pub within : Bool

abbrev told : Row → Told
told r = record { prints = printed (unpacked r.number); packs = packed r.parts; unpacks = unpacked (packed r.parts); within = ltb 0 (packed r.parts) && ltb (packed r.parts) 65536 }

abbrev written : Row → Told
written r = record { prints = text_from r.name (len r.name) 0; packs = r.number; unpacks = r.parts; within = true }

-- the one computed test: each is packed to its number, which is not 0 and has 16 bits, is unpacked again, and prints as it is named
pub real_numbers : map told real ≡ map written real
unfolding real packed unpacked printed text_from
real_numbers = refl
