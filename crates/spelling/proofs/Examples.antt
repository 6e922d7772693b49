-- Spellings and what is read of octets, computed. Assumes nothing.
use mathlib.Core.List.{[], ◌∷◌}
use mathlib.Core.Path.{◌≡◌, refl}
use Rattle.paper.specs.Octets.{number}
use Rattle.spelling.specs.Hex.{digit_of, value_of, pair_of}
use Rattle.spelling.specs.Language.{language_spelled, by_letters, language_in}
use Rattle.spelling.specs.Reading.{is, none, tail_of, two_of, three_of, four_of, escape_of, character_by, character_at}
use Rattle.spelling.specs.Spelling.{utf8, escape, spelled, spelled_to, spelling}

-- A, ä, „, a backslash, a line's end, U+007F, U+009F and U+00A0, halves of a pair, U+E000, U+FFFD and U+FFFE
pub spells : (spelled 0x41 ≡ 0x41 ∷ [])
    × (spelled 0xE4 ≡ 0xC3 ∷ 0xA4 ∷ [])
    × (spelled 0x201E ≡ 0xE2 ∷ 0x80 ∷ 0x9E ∷ [])
    × (spelled 0x5C ≡ 0x5C ∷ 0x5C ∷ [])
    × (spelled 0x0A ≡ 0x5C ∷ 0x75 ∷ 0x30 ∷ 0x30 ∷ 0x30 ∷ 0x41 ∷ [])
    × (spelled 0x7F ≡ 0x5C ∷ 0x75 ∷ 0x30 ∷ 0x30 ∷ 0x37 ∷ 0x46 ∷ [])
    × (spelled 0x9F ≡ 0x5C ∷ 0x75 ∷ 0x30 ∷ 0x30 ∷ 0x39 ∷ 0x46 ∷ [])
    × (spelled 0xA0 ≡ 0xC2 ∷ 0xA0 ∷ [])
    × (spelled 0xD83D ≡ 0x5C ∷ 0x75 ∷ 0x44 ∷ 0x38 ∷ 0x33 ∷ 0x44 ∷ [])
    × (spelled 0xDFFF ≡ 0x5C ∷ 0x75 ∷ 0x44 ∷ 0x46 ∷ 0x46 ∷ 0x46 ∷ [])
    × (spelled 0xE000 ≡ 0xEE ∷ 0x80 ∷ 0x80 ∷ [])
    × (spelled 0xFFFD ≡ 0xEF ∷ 0xBF ∷ 0xBD ∷ [])
    × (spelled 0xFFFE ≡ 0x5C ∷ 0x75 ∷ 0x46 ∷ 0x46 ∷ 0x46 ∷ 0x45 ∷ [])
unfolding spelled utf8 escape digit_of
spells = (refl, refl, refl, refl, refl, refl, refl, refl, refl, refl, refl, refl, refl)

-- the text "Tür"
pub spells_text : spelling (0 ∷ 0x54 ∷ 0 ∷ 0xFC ∷ 0 ∷ 0x72 ∷ []) ≡ 0x54 ∷ 0xC3 ∷ 0xBC ∷ 0x72 ∷ []
unfolding spelled_to spelled utf8 number
spells_text = refl

-- nothing, ä, ä spelled too long, its second octet alone and its first alone, „, half of a pair, U+FFFF, U+1F600, past U+10FFFF, backslashes and escapes
pub reads : (character_at [] 0 ≡ none 1)
    × (character_at (0xC3 ∷ 0xA4 ∷ []) 0 ≡ is 0xE4 2)
    × (character_at (0xE0 ∷ 0x83 ∷ 0xA4 ∷ []) 0 ≡ none 2)
    × (character_at (0xC3 ∷ 0xA4 ∷ []) 1 ≡ none 2)
    × (character_at (0xC3 ∷ []) 0 ≡ none 2)
    × (character_at (0xE2 ∷ 0x80 ∷ 0x9E ∷ []) 0 ≡ is 0x201E 3)
    × (character_at (0xED ∷ 0xA0 ∷ 0x80 ∷ []) 0 ≡ none 2)
    × (character_at (0xEF ∷ 0xBF ∷ 0xBF ∷ []) 0 ≡ is 0xFFFF 3)
    × (character_at (0xF0 ∷ 0x9F ∷ 0x98 ∷ 0x80 ∷ []) 0 ≡ none 3)
    × (character_at (0xF4 ∷ 0x90 ∷ 0x80 ∷ 0x80 ∷ []) 0 ≡ none 2)
    × (character_at (0x5C ∷ 0x5C ∷ []) 0 ≡ is 0x5C 2)
    × (character_at (0x5C ∷ 0x75 ∷ 0x30 ∷ 0x30 ∷ 0x65 ∷ 0x34 ∷ []) 0 ≡ is 0xE4 6)
    × (character_at (0x5C ∷ 0x75 ∷ 0x30 ∷ 0x30 ∷ 0x65 ∷ []) 0 ≡ none 4)
    × (character_at (0x5C ∷ 0x6E ∷ []) 0 ≡ none 4)
unfolding character_at character_by escape_of two_of three_of four_of tail_of pair_of value_of
reads = (refl, refl, refl, refl, refl, refl, refl, refl, refl, refl, refl, refl, refl, refl)

-- de, and two octets that are no letters
pub languages : (language_spelled 0x6465 ≡ 0x64 ∷ 0x65 ∷ [])
    × (language_spelled 0x641F ≡ 0x5C ∷ 0x78 ∷ 0x36 ∷ 0x34 ∷ 0x5C ∷ 0x78 ∷ 0x31 ∷ 0x46 ∷ [])
    × (language_in (0x64 ∷ 0x65 ∷ []) ≡ 0x6465)
    × (language_in (0x64 ∷ 0x31 ∷ []) ≡ 65536)
unfolding language_spelled digit_of language_in by_letters
languages = (refl, refl, refl, refl)
