-- A text of UNICODE16, "two octets a character, high octet first", as it is shown: UTF-8, with escapes for what cannot be shown.
use Rattle.std.specs.Prelude.{ℕ, zero, suc, ◌+◌, ◌*◌, ◌/◌, ◌%◌, ◌≤◌, Bool, cond, ◌&&◌, ◌||◌, List, [], ◌∷◌, ◌++◌, ◌≡◌, ltb, leb, eqb, length, take}
use Rattle.paper.specs.Octets.{number, over}
use Rattle.spelling.specs.Hex.{digit_of}

-- no control character (below U+0020, U+007F to U+009F), no half of a pair (U+D800 to U+DFFF), and neither U+FFFE nor U+FFFF
abbrev pub is_shown : ℕ → Bool
is_shown u = leb 32 u && (ltb u 0x7F || ltb 0x9F u) && (ltb u 0xD800 || ltb 0xDFFF u) && ltb u 0xFFFE

-- the octets of a character below 2^16 in UTF-8
unfoldable pub utf8 : ℕ → List ℕ
utf8 u =
    cond (ltb u 0x80) (u ∷ [])
    (cond (ltb u 0x800) ((0xC0 + u / 64) ∷ (0x80 + u % 64) ∷ [])
    ((0xE0 + u / 4096) ∷ (0x80 + u / 64 % 64) ∷ (0x80 + u % 64) ∷ []))

-- a backslash, u and four digits
unfoldable pub escape : ℕ → List ℕ
escape u = 92 ∷ 117 ∷ digit_of (u / 4096) ∷ digit_of (u / 256 % 16) ∷ digit_of (u / 16 % 16) ∷ digit_of (u % 16) ∷ []

-- a backslash is spelled by two
unfoldable pub spelled : ℕ → List ℕ
spelled u = cond (eqb u 92) (92 ∷ 92 ∷ []) (cond (is_shown u) (utf8 u) (escape u))

-- the first n characters of a text
unfoldable pub spelled_to : List ℕ → ℕ → List ℕ
spelled_to t zero = []
spelled_to t (suc n) = spelled_to t n ++ spelled (number t (2 * n) 2)

abbrev pub spelling : List ℕ → List ℕ
spelling t = spelled_to t (length t / 2)

-- octets written over others from `at` on, and where they end
pub record Put (old : List ℕ) (at : ℕ) (s : List ℕ) (r : ℕ) (new : List ℕ) : Type 0 where
  pub octets : new ≡ over old at s
  pub ends : r ≡ at + length s

-- the same from the first octet on, with what a part of the output up to there asks
pub record Filled (s old : List ℕ) (r : ℕ) (new : List ℕ) : Type 0 where
  pub octets : new ≡ over old 0 s
  pub ends : r ≡ length s
  pub within : r ≤ length new
  pub part : r ≡ length (take r new)
