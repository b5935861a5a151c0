-- The lines that `answer` prints, byte for byte (SCOPE 6.3).
use Rattle.std.specs.Prelude.{List, [], ◌∷◌, ◌++◌, ℕ}
use Rattle.text.specs.Numbers.{numeral, space_byte}
use Rattle.text.specs.Lines.{newline_byte}

-- The byte between a route's junctions (SCOPE 6.3)
abbrev pub hyphen_byte : ℕ
hyphen_byte = 45

-- A route: each junction after the first stands behind a hyphen (SCOPE 6.3)
unfoldable pub hyphens_then : List ℕ → List ℕ
hyphens_then [] = []
hyphens_then (j ∷ js) = hyphen_byte ∷ (numeral j ++ hyphens_then js)

-- The whole route (SCOPE 6.3)
unfoldable pub hyphened : List ℕ → List ℕ
hyphened [] = []
hyphened (j ∷ js) = numeral j ++ hyphens_then js

-- Where there is no route (SCOPE 6.3)
abbrev pub no_route : List ℕ
no_route = hyphen_byte ∷ []

-- A word, one space, what follows (SCOPE 6.3)
infixr 50 ◌␣◌
abbrev pub ◌␣◌ : List ℕ → List ℕ → List ℕ
word ␣ rest = word ++ (space_byte ∷ rest)

-- A line's last word (SCOPE 6.3)
abbrev pub ended : List ℕ → List ℕ
ended word = word ++ (newline_byte ∷ [])

-- The line of a query (SCOPE 6.3)
unfoldable pub answer_line : ℕ → ℕ → ℕ → ℕ → ℕ → ℕ → List ℕ → List ℕ
answer_line s t limit number time energy route =
    numeral s ␣ numeral t ␣ numeral limit ␣ numeral number ␣ numeral time ␣ numeral energy ␣ ended route

-- The line of a line that is no query (SCOPE 6.3)
unfoldable pub bad_line : List ℕ
bad_line = no_route ␣ no_route ␣ no_route ␣ numeral 33 ␣ numeral 0 ␣ numeral 0 ␣ ended no_route

-- The words `network`, `labels`, `refused` (SCOPE 6.3)
abbrev pub network_word : List ℕ
network_word = 110 ∷ (101 ∷ (116 ∷ (119 ∷ (111 ∷ (114 ∷ (107 ∷ []))))))

abbrev pub labels_word : List ℕ
labels_word = 108 ∷ (97 ∷ (98 ∷ (101 ∷ (108 ∷ (115 ∷ [])))))

abbrev pub refused_word : List ℕ
refused_word = 114 ∷ (101 ∷ (102 ∷ (117 ∷ (115 ∷ (101 ∷ (100 ∷ []))))))

-- The first line of accepted files (SCOPE 6.3)
unfoldable pub heading_line : ℕ → ℕ → ℕ → List ℕ
heading_line junctions roads entries = network_word ␣ numeral junctions ␣ numeral roads ␣ labels_word ␣ ended (numeral entries)

-- The only line of refused ones (SCOPE 6.3)
unfoldable pub refused_line : ℕ → List ℕ
refused_line number = refused_word ␣ ended (numeral number)
