-- Which texts are tags, and the first error of the others.
use Rattle.std.specs.Prelude.{◌≡◌, ℕ, List, [], ◌∷◌, Bool, true, false, not, ◌&&◌, ◌||◌, ◌==◌, nat_le, nat_lt, length, slice_get, Option, None, Some, if◌then◌else◌}
use Rattle.std.specs.List.{find, list_all}
use Rattle.std.specs.Str.{chars}
use Rattle.mysql_repl.specs.declared.tag.InvalidTag.{InvalidTag}
use Rattle.mysql_repl.specs.declared.tag.InvalidTag.TheVariants.{Empty, TooLong, InvalidFirstChar, InvalidChar}

-- a lowercase letter or an underscore
abbrev pub is_first : ℕ → Bool
is_first c = (nat_le 97 c && nat_le c 122) || (c == 95)

-- a lowercase letter, an underscore or a digit
abbrev pub is_later : ℕ → Bool
is_later c = is_first c || (nat_le 48 c && nat_le c 57)

-- a lowercase letter or an underscore, and then up to 31 lowercase letters, digits and underscores
unfoldable pub is_tag : List ℕ → Bool
is_tag [] = false
is_tag (c ∷ cs) = is_first c && (list_all is_later cs && nat_le (length cs) 31)

abbrev pub IsTag : List ℕ → Type 0
IsTag text = is_tag text ≡ true

abbrev pub later_fault : Option ℕ → Option InvalidTag
later_fault None = None
later_fault (Some bad) = Some (InvalidChar bad)

-- the error of a text with this length, this first character and this first invalid character
abbrev pub fault_of : ℕ → Option ℕ → Option ℕ → Option InvalidTag
fault_of n None bad = Some Empty
fault_of n (Some c) bad =
    if nat_lt 32 n then Some (TooLong n)
    else if is_first c then later_fault bad
    else Some (InvalidFirstChar c)

-- the first error of a text: none exactly if it is a tag
unfoldable pub tag_fault : List ℕ → Option InvalidTag
tag_fault text = fault_of (length text) (slice_get (chars text) 0) (find (λ c. not (is_later c)) (chars text))
