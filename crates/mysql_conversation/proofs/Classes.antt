-- The machine classifies a payload by its content.
use Rattle.std.proofs.Common.{◌≡◌, ℕ, ◌<◌, List, [], ◌∷◌, ◌⊎◌, inl, inr, Option, Some, None, Ok, Err, refl, ap, subst, ◌∙◌, Bool, true, false, cond}
use Rattle.std.proofs.lemmas.Bool.{eqb-true}
use Rattle.std.specs.Prelude.{◌==◌, nat_lt}
use Rattle.mysql_wire.specs.Flags.{StatusFlags}
use Rattle.mysql_wire.specs.Form.{Form}
use Rattle.mysql_wire.specs.Reading.{Reading}
use Rattle.mysql_replies.specs.declared.ok_packet.OkPacketDeserializer.{OkPacketDeserializer}
use Rattle.mysql_stmt.specs.StmtWithMetadata.{stmt_with_metadata}
use Rattle.mysql_stmt.specs.declared.stmt_with_metadata.StmtPacketWithMetadata.{StmtPacketWithMetadata}
use Rattle.std.proofs.lemmas.Bool.{lt-ltb, ltb-true}
use Rattle.mysql_replies.specs.ColumnCount.{column_count, count, metadata_follows}
use Rattle.mysql_replies.specs.declared.column_count.ColumnCount.{ColumnCount}
use Rattle.mysql_conversation.specs.Agreements.{Agreed, deprecates_eof}
use Rattle.mysql_conversation.specs.Payloads.{first_is, ok_form, terminator_form, old_end_form, looks_like_end, SpelledWith, IsOk, EndsWith, IsEnd, IsOldEnd, IsInfileRequest, IsCount, IsRow}
use Rattle.mysql_conversation.specs.Machine.{status_in, ok_status, old_end_status, terminator_status, end_status, ok_of, count_in, count_at, columns_of, reply_of, end_of, row_of, line_of, old_end_of, statement_in, statement_at}
use Rattle.mysql_conversation.specs.declared.packet_kind.RowFormat.{RowFormat}
use Rattle.mysql_conversation.specs.declared.packet_kind.RowFormat.TheVariants.{Text, Binary}
use Rattle.mysql_conversation.specs.declared.state.Line.{Line}
use Rattle.mysql_conversation.specs.declared.state.Line.TheVariants as line
use Rattle.mysql_conversation.specs.declared.state.Reply.{Reply}
use Rattle.mysql_conversation.specs.declared.state.Reply.TheVariants as reply

-- a payload has one first byte
pub first_unlike : (a b : ℕ) (p : List ℕ) → first_is a p ≡ true → (a == b) ≡ false → first_is b p ≡ false
first_unlike a b [] h e = absurd cc
first_unlike a b (x ∷ xs) h e = rw (eqb-true x a h) e

-- the result of a test
pub chosen : {A : Type 0} (b : Bool) (x y z : A) → cond b x y ≡ z → ((b ≡ true) × (x ≡ z)) ⊎ ((b ≡ false) × (y ≡ z))
chosen true x y z e = inl (refl, e)
chosen false x y z e = inr (refl, e)

pub some_is : {A : Type 0} {x y : A} → Some x ≡ Some y → x ≡ y
some_is h = cc

-- ---- packets that are read

module _ {T : Type 0} (form : Form (OkPacketDeserializer T)) where
  status_spelled : (status : StatusFlags) (p : List ℕ) → SpelledWith form status p → status_in (form.reads p) ≡ Some status
  status_spelled status p h = ap status_in (form.only h.0 p h.1 h.2) ∙ ap Some h.3

  spelled_status : (status : StatusFlags) (p : List ℕ) (r : Reading (OkPacketDeserializer T)) → form.reads p ≡ r → status_in r ≡ Some status → SpelledWith form status p
  spelled_status status p (Ok x) e h = (x.0, x.1, form.found x.0 p x.1 e, some_is h)
  spelled_status status p (Err d) e h = absurd cc

pub ok_status_of : (a : Agreed) (status : StatusFlags) (p : List ℕ) → SpelledWith (ok_form a) status p → ok_status a p ≡ Some status
unfolding ok_status
ok_status_of a status p h = status_spelled (ok_form a) status p h

pub ok_status_is : (a : Agreed) (status : StatusFlags) (p : List ℕ) → ok_status a p ≡ Some status → SpelledWith (ok_form a) status p
unfolding ok_status
ok_status_is a status p h = spelled_status (ok_form a) status p ((ok_form a).reads p) refl h

pub old_end_status_of : (a : Agreed) (status : StatusFlags) (p : List ℕ) → SpelledWith (old_end_form a) status p → old_end_status a p ≡ Some status
unfolding old_end_status
old_end_status_of a status p h = status_spelled (old_end_form a) status p h

pub old_end_status_is : (a : Agreed) (status : StatusFlags) (p : List ℕ) → old_end_status a p ≡ Some status → SpelledWith (old_end_form a) status p
unfolding old_end_status
old_end_status_is a status p h = spelled_status (old_end_form a) status p ((old_end_form a).reads p) refl h

pub end_status_of : (a : Agreed) (deprecates : Bool) (status : StatusFlags) (p : List ℕ) → EndsWith a deprecates status p → end_status a deprecates p ≡ Some status
unfolding terminator_status
end_status_of a true status p h = status_spelled (terminator_form a) status p h
end_status_of a false status p h = old_end_status_of a status p h

pub end_status_is : (a : Agreed) (deprecates : Bool) (status : StatusFlags) (p : List ℕ) → end_status a deprecates p ≡ Some status → EndsWith a deprecates status p
unfolding terminator_status
end_status_is a true status p h = spelled_status (terminator_form a) status p ((terminator_form a).reads p) refl h
end_status_is a false status p h = old_end_status_is a status p h

count_read : (a : Agreed) (c : ColumnCount) (p : List ℕ) (r : Reading ColumnCount) → (column_count.form a).reads p ≡ r → count_in r ≡ Some c
    → (rest : List ℕ) × (column_count.form a).Spells c p rest
count_read a c p (Ok x) e h = (x.1, subst (λ v. (column_count.form a).Spells v p x.1) (some_is h) ((column_count.form a).found x.0 p x.1 e))
count_read a c p (Err d) e h = absurd cc

pub count_at_of : (a : Agreed) (c : ColumnCount) (p rest : List ℕ) → (column_count.form a).Spells c p rest → count_at a p ≡ Some c
unfolding count_at
count_at_of a c p rest s = ap count_in ((column_count.form a).only c p rest s)

pub count_at_is : (a : Agreed) (c : ColumnCount) (p : List ℕ) → count_at a p ≡ Some c → (rest : List ℕ) × (column_count.form a).Spells c p rest
unfolding count_at
count_at_is a c p h = count_read a c p ((column_count.form a).reads p) refl h

statement_read : (a : Agreed) (s : StmtPacketWithMetadata) (p : List ℕ) (r : Reading StmtPacketWithMetadata) → (stmt_with_metadata.form a.mysql).reads p ≡ r → statement_in r ≡ Some s
    → (rest : List ℕ) × (stmt_with_metadata.form a.mysql).Spells s p rest
statement_read a s p (Ok x) e h = (x.1, subst (λ v. (stmt_with_metadata.form a.mysql).Spells v p x.1) (some_is h) ((stmt_with_metadata.form a.mysql).found x.0 p x.1 e))
statement_read a s p (Err d) e h = absurd cc

pub statement_at_of : (a : Agreed) (s : StmtPacketWithMetadata) (p rest : List ℕ) → (stmt_with_metadata.form a.mysql).Spells s p rest → statement_at a p ≡ Some s
unfolding statement_at
statement_at_of a s p rest h = ap statement_in ((stmt_with_metadata.form a.mysql).only s p rest h)

pub statement_at_is : (a : Agreed) (s : StmtPacketWithMetadata) (p : List ℕ) → statement_at a p ≡ Some s → (rest : List ℕ) × (stmt_with_metadata.form a.mysql).Spells s p rest
unfolding statement_at
statement_at_is a s p h = statement_read a s p ((stmt_with_metadata.form a.mysql).reads p) refl h

-- ---- replies

pub reply_ok : (a : Agreed) (more : Bool) (p : List ℕ) → IsOk a more p → reply_of a p ≡ Some (reply.Ok more)
reply_ok a more p h = rw (h.0, ok_status_of a h.1 p h.2) (ap (λ m. Some (reply.Ok m)) h.3)

pub reply_infile : (a : Agreed) (p : List ℕ) → IsInfileRequest p → reply_of a p ≡ Some reply.Infile
reply_infile a p h = rw (first_unlike 251 0 p h refl, h) refl

columns_some : (c : ColumnCount) (n : ℕ) (follow : Bool) → 0 < n → count c ≡ n → metadata_follows c ≡ follow → columns_of (Some c) ≡ Some (reply.Columns n follow)
columns_some c n follow h e g =
    let some : nat_lt 0 (count c) ≡ true = ap (nat_lt 0) e ∙ lt-ltb 0 n h in
    rw some (ap (λ n. Some (reply.Columns n (metadata_follows c))) e ∙ ap (λ d. Some (reply.Columns n d)) g)

pub reply_count : (a : Agreed) (n : ℕ) (follow : Bool) (p : List ℕ) → IsCount a n follow p → reply_of a p ≡ Some (reply.Columns n follow)
reply_count a n follow p h = rw (h.0, h.1) (ap columns_of (count_at_of a h.3 p h.4 h.5) ∙ columns_some h.3 n follow h.2 h.6 h.7)

abbrev pub ReplyMeans : Agreed → Reply → List ℕ → Type 0
ReplyMeans a (reply.Ok more) p = IsOk a more p
ReplyMeans a reply.Infile p = IsInfileRequest p
ReplyMeans a (reply.Columns n follow) p = IsCount a n follow p

ok_means : (a : Agreed) (p : List ℕ) (s : Option StatusFlags) (r : Reply) → first_is 0 p ≡ true → ok_status a p ≡ s → ok_of s ≡ Some r → ReplyMeans a r p
ok_means a p None r z e h = absurd cc
ok_means a p (Some status) r z e h = subst (λ r. ReplyMeans a r p) (some_is h) (z, status, ok_status_is a status p e, refl)

count_means : (a : Agreed) (p : List ℕ) (c : Option ColumnCount) (r : Reply) → first_is 0 p ≡ false → first_is 0xfb p ≡ false → count_at a p ≡ c → columns_of c ≡ Some r → ReplyMeans a r p
count_means a p None r z f e h = absurd cc
count_means a p (Some c) r z f e h = elim (chosen (nat_lt 0 (count c)) _ _ _ h) [
  | inl g ↦ (let s = count_at_is a c p e in subst (λ r. ReplyMeans a r p) (some_is g.1) (z, f, ltb-true 0 (count c) g.0, c, s.0, s.1, refl, refl))
  | inr g ↦ absurd cc
]

pub reply_means : (a : Agreed) (p : List ℕ) (r : Reply) → reply_of a p ≡ Some r → ReplyMeans a r p
reply_means a p r h = elim (chosen (first_is 0 p) _ _ _ h) [
  | inl z ↦ ok_means a p (ok_status a p) r z.0 refl z.1
  | inr z ↦ elim (chosen (first_is 0xfb p) _ _ _ z.1) [
    | inl f ↦ subst (λ r. ReplyMeans a r p) (some_is f.1) f.0
    | inr f ↦ count_means a p (count_at a p) r z.0 f.0 refl f.1
  ]
]

-- ---- lines

pub zero_is_no_end : (deprecates : Bool) (p : List ℕ) → first_is 0 p ≡ true → looks_like_end deprecates p ≡ false
zero_is_no_end deprecates p h = rw (first_unlike 0 0xfe p h refl) refl

pub end_is_no_zero : (p : List ℕ) → looks_like_end false p ≡ true → first_is 0 p ≡ false
end_is_no_zero p h = elim (chosen (first_is 0xfe p) _ _ _ h) [
  | inl e ↦ first_unlike 0xfe 0 p e.0 refl
  | inr e ↦ absurd cc
]

pub line_row : (a : Agreed) (format : RowFormat) (p : List ℕ) → IsRow a format p → line_of a format p ≡ Some line.Row
line_row a Text p h = rw h refl
line_row a Binary p h = rw (zero_is_no_end (deprecates_eof a) p h, h) refl

pub line_end : (a : Agreed) (format : RowFormat) (more : Bool) (p : List ℕ) → IsEnd a more p → line_of a format p ≡ Some (line.End more)
line_end a format more p h = rw (h.0, end_status_of a (deprecates_eof a) h.1 p h.2) (ap (λ m. Some (line.End m)) h.3)

abbrev pub LineMeans : Agreed → RowFormat → Line → List ℕ → Type 0
LineMeans a format line.Row p = IsRow a format p
LineMeans a format (line.End more) p = IsEnd a more p

end_means : (a : Agreed) (format : RowFormat) (p : List ℕ) (s : Option StatusFlags) (r : Line)
    → looks_like_end (deprecates_eof a) p ≡ true → end_status a (deprecates_eof a) p ≡ s → end_of s ≡ Some r → LineMeans a format r p
end_means a format p None r f e h = absurd cc
end_means a format p (Some status) r f e h = subst (λ r. LineMeans a format r p) (some_is h) (f, status, end_status_is a (deprecates_eof a) status p e, refl)

row_means : (a : Agreed) (format : RowFormat) (p : List ℕ) (r : Line) → looks_like_end (deprecates_eof a) p ≡ false → row_of format p ≡ Some r → LineMeans a format r p
row_means a Text p r f h = subst (λ r. LineMeans a Text r p) (some_is h) f
row_means a Binary p r f h = elim (chosen (first_is 0 p) _ _ _ h) [
  | inl z ↦ subst (λ r. LineMeans a Binary r p) (some_is z.1) z.0
  | inr z ↦ absurd cc
]

pub line_means : (a : Agreed) (format : RowFormat) (p : List ℕ) (r : Line) → line_of a format p ≡ Some r → LineMeans a format r p
line_means a format p r h = elim (chosen (looks_like_end (deprecates_eof a) p) _ _ _ h) [
  | inl e ↦ end_means a format p (end_status a (deprecates_eof a) p) r e.0 refl e.1
  | inr e ↦ row_means a format p r e.0 e.1
]

-- ---- old ends

pub old_end_of_is : (a : Agreed) (status : StatusFlags) (p : List ℕ) → IsOldEnd a status p → old_end_of a p ≡ Some status
old_end_of_is a status p h = rw h.0 (old_end_status_of a status p h.1)

pub old_end_means : (a : Agreed) (status : StatusFlags) (p : List ℕ) → old_end_of a p ≡ Some status → IsOldEnd a status p
old_end_means a status p h = elim (chosen (looks_like_end false p) _ _ _ h) [
  | inl e ↦ (e.0, old_end_status_is a status p e.1)
  | inr e ↦ absurd cc
]
