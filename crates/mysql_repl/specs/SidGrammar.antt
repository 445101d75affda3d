-- Which texts encode which sids: the grammar of these texts, independent of any reader.
use Rattle.std.specs.Prelude.{◌≡◌, ◌≢◌, ℕ, ◌+◌, ◌<◌, ◌⊎◌, List, [], ◌∷◌, ◌++◌, length, None, Some, true, codes}
use Rattle.std.specs.Char.{is_ascii_digit}
use Rattle.std.specs.Str.Parse.{IsNumeral, digits_value}
use Rattle.uuid.specs.Text.{parsed}
use Rattle.mysql_repl.specs.declared.gno_interval.GnoInterval.{GnoInterval}
use Rattle.mysql_repl.specs.declared.sid.Sid.{Sid}
use Rattle.mysql_repl.specs.GnoInterval.{start, end}
use Rattle.mysql_repl.specs.ProperSid.{ProperInterval}
use Rattle.mysql_repl.specs.SidText.{tag_text}
use Rattle.mysql_repl.specs.TagString.{OptionalTag}

-- one or more decimal digits, which write the number
abbrev pub AreDigitsOf : List ℕ → ℕ → Type 0
AreDigitsOf digits n = IsNumeral 10 digits × (digits_value 10 digits ≡ n)

-- digits, or a plus and digits
abbrev pub SpellsNumber : List ℕ → ℕ → Type 0
SpellsNumber text n = AreDigitsOf text n ⊎ ((digits : List ℕ) × (text ≡ codes "+" ++ digits) × AreDigitsOf digits n)

-- a number, which is both the first and the last
abbrev pub SpellsOne : List ℕ → GnoInterval → Type 0
SpellsOne text i = SpellsNumber text (start i) × (end i ≡ start i + 1)

-- the first number and the last, separated by a hyphen
pub record SpellsTwo (text : List ℕ) (i : GnoInterval) : Type 0 where
  pub first : List ℕ
  pub last : List ℕ
  pub parts : text ≡ first ++ (codes "-" ++ last)
  pub first_number : SpellsNumber first (start i)
  pub last_gno : ℕ
  pub last_number : SpellsNumber last last_gno
  pub end_after : end i ≡ last_gno + 1

-- either form, where the first number is at least 1 and at most the last, whose successor fits in 64 bits
pub record SpellsInterval (text : List ℕ) (i : GnoInterval) : Type 0 where
  pub numbers : SpellsOne text i ⊎ SpellsTwo text i
  pub proper : ProperInterval i

-- intervals, each after a colon
abbrev pub SpellsEach : List GnoInterval → List ℕ → Type 0
SpellsEach [] text = text ≡ []
SpellsEach (i ∷ is) text = (part : List ℕ) × (rest : List ℕ) × (text ≡ codes ":" ++ (part ++ rest)) × SpellsInterval part i × SpellsEach is rest

-- a digit follows the colon
abbrev pub DigitAfterColon : List ℕ → Type 0
DigitAfterColon [] = ⊥
DigitAfterColon (colon ∷ []) = ⊥
DigitAfterColon (colon ∷ c ∷ text) = is_ascii_digit c ≡ true

abbrev pub NoColon : List ℕ → Type 0
NoColon [] = Unit {0}
NoColon (c ∷ text) = (c ≢ 58) × NoColon text

-- A text of the uuid without a colon; the tag after a colon, if there is one; and at least one interval, each after a colon. Without a tag
-- the first interval begins with a digit, not with a plus.
pub record SpellsSid (text : List ℕ) (s : Sid) : Type 0 where
  pub id : List ℕ
  pub more : List ℕ
  pub parts : text ≡ id ++ (tag_text s.tag ++ more)
  pub no_colon : NoColon id
  pub uuid : parsed id ≡ Some s.uuid
  pub tag : OptionalTag s.tag
  pub intervals : SpellsEach s.intervals more
  pub some : 0 < length s.intervals
  pub digit : s.tag ≡ None → DigitAfterColon more
