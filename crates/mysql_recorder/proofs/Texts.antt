-- One more byte of a text.
use Rattle.std.proofs.Common.{◌≡◌, ◌⊎◌, inl, inr, ℕ, List, [], ◌∷◌, ◌++◌, Option, Some, None, refl, sym, ap, subst, ◌∙◌, append_assoc, append-nil}
use Rattle.mysql_conversation.specs.declared.packet_kind.Side.{Side}
use Rattle.mysql_recorder.specs.Frames.{joined}
use Rattle.mysql_recorder.specs.Lines.{Heard, heard, Line, IsLine, AreLines, text_of, said_by, Stands, Passes, says_of, IsOfSide, StaysOf, IsRead}
use Rattle.mysql_recorder.specs.Recorded.{IsReadTo, IsShown, Recorded}
use Rattle.mysql_recorder.specs.Shown.{Item}
use Rattle.mysql_recorder.specs.Sides.{Stand}
use Rattle.mysql_recorder.specs.declared.line.Place.{Place}
use Rattle.mysql_recorder.specs.declared.line.Place.TheVariants as place
use Rattle.mysql_recorder.specs.declared.line.Said.{Said}
use Rattle.mysql_recorder.specs.declared.line.Said.TheVariants as says
use Rattle.mysql_recorder.specs.declared.recording.Recording.{Recording}
use Rattle.mysql_recorder.proofs.Lines.{heard-append}

all_line : (xs : List Line) (l : Line) → AreLines xs → IsLine l → AreLines (xs ++ l ∷ [])
all_line [] l h g = (g, tt)
all_line (x ∷ xs) l h g = (h.0, all_line xs l h.1 g)

text_of-append : (xs : List Line) (l : Line) → text_of (xs ++ l ∷ []) ≡ text_of xs ++ (l.text ++ 10 ∷ [])
text_of-append [] l = append-nil (l.text ++ 10 ∷ [])
text_of-append (x ∷ xs) l = ap (λ t. (x.text ++ 10 ∷ []) ++ t) (text_of-append xs l) ∙ sym (append_assoc (x.text ++ 10 ∷ []) (text_of xs) (l.text ++ 10 ∷ []))

said_by-append : (xs : List Line) (l : Line) → said_by (xs ++ l ∷ []) ≡ said_by xs ++ l.says
said_by-append [] l = append-nil l.says
said_by-append (x ∷ xs) l = ap (λ t. x.says ++ t) (said_by-append xs l) ∙ sym (append_assoc x.says (said_by xs) l.says)

goes_on : (text : List ℕ) (said : List Heard) (c : ℕ) (new : Place) (lines : List Line) (line : List ℕ) (more next : List Heard)
    → AreLines lines → text ≡ text_of lines ++ line → said ≡ said_by lines ++ more → Stands new (line ++ c ∷ []) (more ++ next)
    → IsRead (text ++ c ∷ []) new (said ++ next)
goes_on text said c new lines line more next all text_is said_is h = (
  lines,
  line ++ c ∷ [],
  more ++ next,
  all,
  ap (λ t. t ++ c ∷ []) text_is ∙ append_assoc (text_of lines) line (c ∷ []),
  ap (λ t. t ++ next) said_is ∙ append_assoc (said_by lines) more next,
  h,
)

text_ends : (text : List ℕ) (c : ℕ) (lines : List Line) (l : Line) → text ≡ text_of lines ++ l.text → c ≡ 10 → text ++ c ∷ [] ≡ text_of (lines ++ l ∷ []) ++ []
text_ends text c lines l text_is feed =
    ap (λ t. t ++ c ∷ []) text_is ∙ append_assoc (text_of lines) l.text (c ∷ []) ∙ ap (λ x. text_of lines ++ (l.text ++ x ∷ [])) feed ∙ sym (text_of-append lines l)
    ∙ sym (append-nil (text_of (lines ++ l ∷ [])))

ends : (text : List ℕ) (said : List Heard) (c : ℕ) (new : Place) (lines : List Line) (line : List ℕ) (more : List Heard)
    → AreLines lines → text ≡ text_of lines ++ line → said ≡ said_by lines ++ more → c ≡ 10 → new ≡ place.Start → IsLine (record { text = line; says = more })
    → IsRead (text ++ c ∷ []) new (said ++ [])
ends text said c new lines line more all text_is said_is feed start h =
    let l : Line = record { text = line; says = more } in (
      lines ++ l ∷ [],
      [],
      [],
      all_line lines l all h,
      text_ends text c lines l text_is feed,
      append-nil said ∙ said_is ∙ sym (said_by-append lines l) ∙ sym (append-nil (said_by (lines ++ l ∷ []))),
      subst (λ p. Stands p [] []) (sym start) (refl, refl),
    )

pub read_byte : (text : List ℕ) (said : List Heard) (old new : Place) (c : ℕ) (found : Option Said)
    → IsRead text old said → ((line : List ℕ) (before : List Heard) → Stands old line before → Passes found c line before new)
    → IsRead (text ++ c ∷ []) new (said ++ says_of found)
read_byte text said old new c None (lines, line, more, all, text_is, said_is, stands) passes =
    elim (passes line more stands) as (λ _. IsRead (text ++ c ∷ []) new (said ++ [])) [
      | inl h ↦ goes_on text said c new lines line more [] all text_is said_is (subst (λ m. Stands new (line ++ c ∷ []) m) (sym (append-nil more)) h)
      | inr h ↦ ends text said c new lines line more all text_is said_is h.0 h.1 h.3
    ]
read_byte text said old new c (Some (says.Byte side value)) (lines, line, more, all, text_is, said_is, stands) passes =
    goes_on text said c new lines line more (record { from = side; byte = value } ∷ []) all text_is said_is (passes line more stands)
read_byte text said old new c (Some says.End) (lines, line, more, all, text_is, said_is, stands) passes =
    let h = passes line more stands in
    ends text said c new lines line more all text_is said_is h.0 h.1 h.2

-- ---- apart from the line

-- the byte that ends a line
pub line_ends : (text : List ℕ) (said : List Heard) (old new : Place) (c : ℕ) → IsRead text old said
    → ((line : List ℕ) (before : List Heard) → Stands old line before → Passes (Some says.End) c line before new) → IsReadTo (text ++ c ∷ []) new said []
line_ends text said old new c (lines, line, more, all, text_is, said_is, stands) passes =
    let h = passes line more stands in
    let l : Line = record { text = line; says = more } in (
      lines ++ l ∷ [],
      [],
      all_line lines l all h.2,
      text_ends text c lines l text_is h.0,
      said_is ∙ sym (said_by-append lines l),
      subst (λ p. Stands p [] []) (sym h.1) (refl, refl),
    )

read_to_none : (text : List ℕ) (said more : List Heard) (old new : Place) (c : ℕ) → IsReadTo text old said more
    → ((line : List ℕ) (before : List Heard) → Stands old line before → Passes None c line before new) → IsReadTo (text ++ c ∷ []) new said more
read_to_none text said more old new c (lines, line, all, text_is, said_is, stands) passes =
    elim (passes line more stands) as (λ _. IsReadTo (text ++ c ∷ []) new said more) [
      | inl h ↦ (lines, line ++ c ∷ [], all, ap (λ t. t ++ c ∷ []) text_is ∙ append_assoc (text_of lines) line (c ∷ []), said_is, h)
      | inr h ↦ (let l : Line = record { text = line; says = more } in (
        lines ++ l ∷ [],
        [],
        all_line lines l all h.3,
        text_ends text c lines l text_is h.0,
        said_is ∙ sym (append-nil (said_by lines)) ∙ ap (λ m. said_by lines ++ m) (sym h.2) ∙ sym (said_by-append lines l),
        subst (λ p. Stands p [] more) (sym h.1) (refl, h.2),
      ))
    ]

read_to_byte : (text : List ℕ) (said more : List Heard) (old new : Place) (c : ℕ) (side : Side) (value : ℕ) → IsReadTo text old said more
    → ((line : List ℕ) (before : List Heard) → Stands old line before → Passes (Some (says.Byte side value)) c line before new)
    → IsReadTo (text ++ c ∷ []) new said (more ++ record { from = side; byte = value } ∷ [])
read_to_byte text said more old new c side value (lines, line, all, text_is, said_is, stands) passes =
    (lines, line ++ c ∷ [], all, ap (λ t. t ++ c ∷ []) text_is ∙ append_assoc (text_of lines) line (c ∷ []), said_is, passes line more stands)

-- ---- recordings

-- what is printed for what was read
abbrev pub shown_of : (r : Recording) (text : List ℕ) (items : List Item) → Recorded r text items → IsShown text (heard r.line.side r.line.bytes.items) items
shown_of r text items h = record {
  at = r.place;
  said = h.said;
  pieces = h.pieces;
  client_left = r.sides.client.reader.held;
  server_left = r.sides.server.reader.held;
  read = h.read;
  parts = h.waits;
  packets = h.stand.come;
  client_none = h.stand.client.none;
  server_none = h.stand.server.none;
}

-- a byte without effect
pub recorded_none : (old new : Recording) (text : List ℕ) (items : List Item) (c : ℕ) → Recorded old text items
    → ((line : List ℕ) (before : List Heard) → Stands old.place line before → Passes None c line before new.place) → StaysOf None old.place new.place
    → new.line ≡ old.line → new.sides ≡ old.sides → Recorded new (text ++ c ∷ []) (items ++ [])
recorded_none old new text items c h passes stays line sides = record {
  said = h.said ++ [];
  pieces = h.pieces;
  read = read_byte text h.said old.place new.place c None h.read passes;
  waits = append-nil h.said ∙ h.waits ∙ ap (λ l. joined h.pieces ++ heard l.side l.bytes.items) (sym line);
  line = elim h.line as (λ _. (new.line.bytes.items ≡ []) ⊎ IsOfSide new.line.side new.place) [
    | inl e ↦ inl (ap (λ l. l.bytes.items) line ∙ e)
    | inr e ↦ inr (subst (λ l. IsOfSide l.side new.place) (sym line) (stays old.line.side e))
  ];
  untaken = λ e. subst (λ l. IsReadTo (text ++ c ∷ []) new.place (joined h.pieces) (heard l.side l.bytes.items)) (sym line)
      (read_to_none text (joined h.pieces) (heard old.line.side old.line.bytes.items) old.place new.place c (h.untaken (sym (ap (λ l. l.is_untaken) line) ∙ e)) passes);
  stand = subst (λ s. Stand s h.pieces (items ++ [])) (sym sides) (subst (λ xs. Stand old.sides h.pieces xs) (sym (append-nil items)) h.stand);
}

waits_more : (t side : Side) (bytes : List ℕ) (value : ℕ) → ((bytes ≡ []) ⊎ (side ≡ t)) → heard t bytes ++ record { from = side; byte = value } ∷ [] ≡ heard side (bytes ++ value ∷ [])
waits_more t side bytes value (inl e) =
    ap (λ b. heard t b ++ record { from = side; byte = value } ∷ []) e ∙ ap (λ b. heard side (b ++ value ∷ [])) (sym e)
waits_more t side bytes value (inr e) =
    ap (λ s. heard s bytes ++ record { from = side; byte = value } ∷ []) (sym e) ∙ sym (heard-append side bytes (value ∷ []))

-- a byte of a stream
pub recorded_byte : (old new : Recording) (text : List ℕ) (items : List Item) (c : ℕ) (side : Side) (value : ℕ) → Recorded old text items
    → ((line : List ℕ) (before : List Heard) → Stands old.place line before → Passes (Some (says.Byte side value)) c line before new.place)
    → StaysOf (Some (says.Byte side value)) old.place new.place
    → new.line.side ≡ side → new.line.bytes.items ≡ old.line.bytes.items ++ value ∷ [] → new.line.is_untaken ≡ old.line.is_untaken → new.sides ≡ old.sides → Recorded new (text ++ c ∷ []) (items ++ [])
recorded_byte old new text items c side value h passes stays side_is bytes untaken sides =
    let same : (old.line.bytes.items ≡ []) ⊎ (side ≡ old.line.side) =
    elim h.line as (λ _. (old.line.bytes.items ≡ []) ⊎ (side ≡ old.line.side)) [ inl e ↦ inl e | inr e ↦ inr (stays.0 old.line.side e) ] in
    record {
      said = h.said ++ record { from = side; byte = value } ∷ [];
      pieces = h.pieces;
      read = read_byte text h.said old.place new.place c (Some (says.Byte side value)) h.read passes;
      waits = ap (λ t. t ++ record { from = side; byte = value } ∷ []) h.waits
          ∙ append_assoc (joined h.pieces) (heard old.line.side old.line.bytes.items) (record { from = side; byte = value } ∷ [])
          ∙ ap (λ t. joined h.pieces ++ t) (waits_more old.line.side side old.line.bytes.items value same)
          ∙ ap (λ b. joined h.pieces ++ heard side b) (sym bytes) ∙ ap (λ s. joined h.pieces ++ heard s new.line.bytes.items) (sym side_is);
      line = inr (subst (λ s. IsOfSide s new.place) (sym side_is) stays.1);
      untaken = λ e. subst (λ s. IsReadTo (text ++ c ∷ []) new.place (joined h.pieces) (heard s new.line.bytes.items)) (sym side_is)
          (subst (λ b. IsReadTo (text ++ c ∷ []) new.place (joined h.pieces) (heard side b)) (sym bytes)
          (subst (λ m. IsReadTo (text ++ c ∷ []) new.place (joined h.pieces) m) (waits_more old.line.side side old.line.bytes.items value same)
          (read_to_byte text (joined h.pieces) (heard old.line.side old.line.bytes.items) old.place new.place c side value (h.untaken (sym untaken ∙ e)) passes)));
      stand = subst (λ s. Stand s h.pieces (items ++ [])) (sym sides) (subst (λ xs. Stand old.sides h.pieces xs) (sym (append-nil items)) h.stand);
    }
