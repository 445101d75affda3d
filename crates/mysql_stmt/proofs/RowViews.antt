-- A row read value by value: one value, and those after it.
use Rattle.std.proofs.Common.{◌≡◌, ◌∙◌, sym, ap, subst, zero, suc, ℕ, ◌+◌, ◌==◌, ◌↔◌, IsTrue, List, [], ◌∷◌, Result, Ok, Err, Some, Option, Bool, false, length, drop, refl, arith}
use Rattle.std.specs.Prelude.{replicate}
use Rattle.std.proofs.lemmas.List.{length-replicate}
use Rattle.mysql_wire.specs.declared.fault.FaultOf.{FaultOf}
use Rattle.mysql_wire.specs.declared.fault.FaultKind.{FaultKind}
use Rattle.mysql_wire.specs.declared.codes.column_type.ColumnType.{ColumnType}
use Rattle.mysql_wire.specs.FlagMasks.{UNSIGNED_FLAG}
use Rattle.mysql_wire.specs.Flags.{has}
use Rattle.mysql_wire.specs.Reading.{Reading, Faults, then_read}
use Rattle.mysql_wire.specs.Form.{Form}
use Rattle.mysql_wire.specs.Each.{each}
use Rattle.mysql_wire.specs.Seq.{counted}
use Rattle.mysql_wire.proofs.Refused.{fault-same, kind-in}
use Rattle.mysql_values.specs.Value.{Content}
use Rattle.mysql_values.specs.ValueDeserializer.{text_value}
use Rattle.mysql_replies.specs.declared.column.Column.{Column}
use Rattle.mysql_replies.specs.Column.{column_type, flags}
use Rattle.mysql_stmt.specs.RowForm.{there, bin_row, text_row}
use Rattle.mysql_stmt.specs.Bitmap.{cell}
use Rattle.mysql_stmt.specs.RowView.{RowLeft, IsDone, row_left, text_row_left, read_to, read_of, Gives, RefusesNext, bin_row_of, ref_cell, ref_unless, text_row_of}
use Rattle.mysql_stmt.specs.OneByOne.{Several, several_in, then_several}
use Rattle.mysql_stmt.proofs.OneByOne.{none-before, none-left, one-more, same-end, same-tails}
use Rattle.mysql_stmt.proofs.NullBits.{is-one}

-- no value precedes this kind of fault
abbrev RowFails : FaultKind → RowLeft → Type 0
RowFails e row = (row.values ≡ []) × (read_of row ≡ Err e)

module _ {C : Type 0} (f : ℕ → C → Form Content) (place : ℕ) (c : C) (cs : List C) (bytes : List ℕ) where
  read-fails : (e : _) → (f place c).reads bytes ≡ Err e → RowFails e (row_left f place (c ∷ cs) bytes)
  read-fails e h = let n = none-before f place c cs bytes e h in (n.0, rw n.1 refl)

  -- the fault of a value is that of the row
  pub one-fault : (e : FaultOf) → Faults false e ((f place c).reads bytes) → RefusesNext e (row_left f place (c ∷ cs) bytes)
  one-fault e h =
      let read = (f place c).reads bytes in
      ((read-fails _ (kind-in e read h).1).0, fault-same false e read (read_of (row_left f place (c ∷ cs) bytes)) (λ k h. (read-fails k h).1) h)

-- no value is left
pub no-value : {C : Type 0} (f : ℕ → C → Form Content) (place : ℕ) (cs : List C) (bytes : List ℕ) (row : RowLeft) → row_left f place cs bytes ≡ row → length cs ≡ 0 → IsDone row
no-value f place cs bytes row view none = subst IsDone view (none, (none-left f place cs bytes none).0)

pub no-text : (f : ℕ → Unit {0} → Form Content) (left : ℕ) (bytes : List ℕ) → left ≡ 0 → ((several_in f 0 (replicate left tt) bytes).read ≡ []) × ((several_in f 0 (replicate left tt) bytes).end ≡ Ok bytes)
unfolding several_in
no-text f left bytes e = (rw e refl, rw e refl)

-- ---- one value of a binary row, NULL by the bitmap or read from the row's buffer: the first of the rest

module _ {C : Type 0} (type_of : C → ColumnType) (unsigned : C → Bool) (nulls : List ℕ) (offset place : ℕ) (c : C) (cs left : List C) (bytes at : List ℕ)
    (is_null : Bool) (bit : IsTrue is_null ↔ (cell nulls (place + offset) ≡ 1)) (cut : left ≡ c ∷ cs) (at_is : at ≡ bytes)
    (row : RowLeft) (view : row_left (ref_cell type_of unsigned nulls offset) place left bytes ≡ row) where
  abbrev value_read : Bool → List ℕ → Reading Content
  value_read b buf = (ref_unless type_of unsigned b c).reads buf

  is_the_bit : is_null ≡ (cell nulls (place + offset) == 1)
  is_the_bit = is-one is_null (cell nulls (place + offset)) bit

  abbrev row_after : List ℕ → RowLeft
  row_after after = row_left (ref_cell type_of unsigned nulls offset) (place + 1) cs after

  abbrev row_before : List C → RowLeft
  row_before l = row_left (ref_cell type_of unsigned nulls offset) place l bytes

  pub first-value : (x : Content) (after : List ℕ) → value_read is_null at ≡ Ok (x, after) → Gives row x (row_after after)
  first-value x after h =
      let f = ref_cell type_of unsigned nulls offset in
      let here = subst (λ (buf : List ℕ). value_read (cell nulls (place + offset) == 1) buf ≡ Ok (x, after)) at_is (subst (λ (b : Bool). value_read b at ≡ Ok (x, after)) is_the_bit h) in
      subst (λ (r : RowLeft). Gives r x (row_after after)) (ap row_before (sym cut) ∙ view)
      (refl, one-more f place c cs bytes x after here, same-end f place c cs bytes x after here, same-tails f place c cs bytes x after here)

  -- its fault is that of the row
  pub first-fault : (e : FaultOf) → Faults false e (value_read is_null at) → RefusesNext e row
  first-fault e h =
      let f = ref_cell type_of unsigned nulls offset in
      let here = subst (λ (buf : List ℕ). Faults false e (value_read (cell nulls (place + offset) == 1) buf)) at_is (subst (λ (b : Bool). Faults false e (value_read b at)) is_the_bit h) in
      subst (RefusesNext e) (ap row_before (sym cut) ∙ view) (one-fault f place c cs bytes e here)

-- ---- all values of a row

pushed : (v : Content) (values : List Content) (end : Result (List ℕ) FaultKind) → then_read (read_to values end) (λ xs rest. Ok (Some v ∷ xs, rest)) ≡ read_to (v ∷ values) end
pushed v values (Ok rest) = refl
pushed v values (Err e) = refl

step : (read : Reading Content) (next : List ℕ → Several Content) (tail : List ℕ → Reading (List (Option Content))) → ((bytes : List ℕ) → tail bytes ≡ read_to (next bytes).read (next bytes).end)
    → then_read (then_read read (λ v rest. Ok (Some v, rest))) (λ x mid. then_read (tail mid) (λ xs rest. Ok (x ∷ xs, rest))) ≡ read_to (then_several read next).read (then_several read next).end
step (Ok x) next tail h = rw (h x.1) (pushed x.0 (next x.1).read (next x.1).end)
step (Err e) next tail h = refl

-- reading value by value is reading all
pub all-values : {C : Type 0} (f : ℕ → C → Form Content) (place : ℕ) (cs : List C) (bytes : List ℕ)
    → (each (λ place c. there (f place c)) place cs).reads bytes ≡ read_to (several_in f place cs bytes).read (several_in f place cs bytes).end
unfolding each several_in
all-values f place [] bytes = refl
all-values f place (c ∷ cs) bytes = step ((f place c).reads bytes) (several_in f (place + 1) cs) (λ mid. (each (λ place c. there (f place c)) (place + 1) cs).reads mid) (λ mid. all-values f (place + 1) cs mid)

then-alike : {A B : Type 0} (r : Reading A) (n m : A → List ℕ → Reading B) → ((x : A) (mid : List ℕ) → n x mid ≡ m x mid) → then_read r n ≡ then_read r m
then-alike (Ok x) n m h = h x.0 x.1
then-alike (Err e) n m h = refl

-- one value of a form for each column is a list of that many values
each-counted : {A C : Type 0} (f : Form A) (place : ℕ) (cs : List C) (bytes : List ℕ) → (each (λ place column. f) place cs).reads bytes ≡ (counted (length cs) f).reads bytes
unfolding each counted
each-counted f place [] bytes = refl
each-counted f place (c ∷ cs) bytes =
    then-alike (f.reads bytes) _ _ (λ x mid. ap (λ (r : Reading (List _)). then_read r (λ xs rest. Ok (x ∷ xs, rest))) (each-counted f (place + 1) cs mid))

pub all-text : (left : ℕ) (bytes : List ℕ) → read_of (text_row_left left bytes) ≡ (text_row_of left).reads bytes
all-text left bytes =
    sym (all-values (λ place column. text_value) 0 (replicate left tt) bytes) ∙ each-counted (there text_value) 0 (replicate left tt) bytes
    ∙ ap (λ (n : ℕ). (counted n (there text_value)).reads bytes) (length-replicate left tt)

-- ---- the rows of columns

pub bin-same : (offset : ℕ) (columns : List Column) (bytes : List ℕ)
    → (bin_row_of column_type (λ c. has (flags c).0 UNSIGNED_FLAG) offset columns).reads bytes ≡ (bin_row offset columns).reads bytes
bin-same offset columns bytes = refl

pub text-same : (columns : List Column) (bytes : List ℕ) → (text_row_of (length columns)).reads bytes ≡ (text_row columns).reads bytes
text-same columns bytes = sym (each-counted (there text_value) 0 columns bytes)

pub ruleset row_views = (bin-same, text-same)

-- ---- text rows, which have no bitmap

then_several-alike : (read : Reading Content) (n m : List ℕ → Several Content) → ((mid : List ℕ) → n mid ≡ m mid) → then_several read n ≡ then_several read m
then_several-alike (Ok x) n m h = ap (λ (v : Several Content). then_several (Ok x) (λ mid. v)) (h x.1)
then_several-alike (Err e) n m h = refl

place-free : (p q left : ℕ) (bytes : List ℕ) → several_in (λ place (column : Unit {0}). text_value) p (replicate left tt) bytes ≡ several_in (λ place (column : Unit {0}). text_value) q (replicate left tt) bytes
unfolding several_in
place-free p q zero bytes = refl
place-free p q (suc left) bytes = then_several-alike (text_value.reads bytes) _ _ (λ mid. place-free (p + 1) (q + 1) left mid)

pub one-text : (left : ℕ) (bytes : List ℕ) (x : Content) (after : List ℕ) → text_value.reads bytes ≡ Ok (x, after)
    → Gives (text_row_left (suc left) bytes) x (text_row_left left after)
one-text left bytes x after h =
    let f : ℕ → Unit {0} → Form Content = λ place column. text_value in
    let same = place-free 1 0 left after in
    let columns = replicate left tt in (
      refl,
      one-more f 0 tt columns bytes x after h ∙ ap (λ (v : Several Content). x ∷ v.read) same,
      sym (ap (λ (v : Several Content). v.end) same) ∙ same-end f 0 tt columns bytes x after h,
      same-tails f 0 tt columns bytes x after h ∙ ap (λ (v : Several Content). after ∷ v.tails) same,
    )

pub text-fault : (left : ℕ) (bytes : List ℕ) (e : FaultOf) → Faults false e (text_value.reads bytes) → RefusesNext e (text_row_left (suc left) bytes)
text-fault left bytes e h = one-fault (λ place column. text_value) 0 tt (replicate left tt) bytes e h

-- ---- the bytes after each value, in a loop over the values

pub rest_next : {A : Type 0} (all : List A) (i : ℕ) (x : A) (later : List A) → drop i all ≡ x ∷ later → drop (i + 1) all ≡ later
rest_next [] zero x later e = cc
rest_next [] (suc i) x later e = cc
rest_next (y ∷ all) zero x later e = cc
rest_next (y ∷ all) (suc i) x later e = let more : suc i + 1 ≡ suc (i + 1) = omega arith in rw more (rest_next all i x later e)
