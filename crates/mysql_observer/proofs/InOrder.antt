-- The table is that of the packets in the order of the conversation.
use Rattle.std.proofs.Common.{◌≡◌, ℕ, ◌+◌, ◌-◌, ◌<◌, ◌≤◌, max, Bool, true, false, cond, nat_lt, nat_le, List, [], ◌∷◌, ◌++◌, filter, map, Option, None, Some, refl, sym, ap, ◌∙◌, subst, append_assoc, arith, if◌then◌else◌, IsTrue}
use Rattle.std.proofs.lemmas.Bool.{lt-ltb, leb-true, leb-false, ltb-true, ltb-false}
use Rattle.std.proofs.lemmas.List.{append-nil}
use Rattle.mysql_conversation.specs.Agreements.{Agreed}
use Rattle.mysql_conversation.specs.Pipelined.{Numbered}
use Rattle.mysql_statements.specs.After.{after}
use Rattle.mysql_statements.specs.PipelinedCommands.{Command, has_place, command}
use Rattle.mysql_statements.specs.Table.{Table}
use Rattle.mysql_observer.proofs.Fronts.{front_taken}
use Rattle.mysql_observer.specs.Tracked.{Tracked, front, command_taken, table_served, left_waiting, tracked_after, taken, held}
use Rattle.mysql_observer.specs.Order.{up_to, tables_after, Step, items_of, IsCommand, IsNext, at_after, at_last, AreOrderly, step_after, after_steps, HavePlaces}
use Rattle.mysql_observer.proofs.Ordered.{Ascends, later, sooner, filter_append, up_to_same, up_to_more, up_to_later, none_sooner, all_later, keeps, skips}

abbrev pub command_at : Numbered → Command
command_at x = command x.number (front x.packet.payload)

abbrev pub AreCommands : List Numbered → Type 0
AreCommands [] = Unit {0}
AreCommands (x ∷ xs) = IsCommand x × AreCommands xs

-- ---- the served commands

taken_as : (a : Agreed) (x : Numbered) (t : Table) → IsCommand x → command_taken a (front x.packet.payload) t ≡ after true a x.packet.kind x.packet.payload t
taken_as a x t h = front_taken a x.packet.payload t ∙ ap (λ k. after true a k x.packet.payload t) (sym h)

served_when : (b : Bool) (a : Agreed) (n l : ℕ) (x : Numbered) (xs : List Numbered) (t : Table) → nat_le x.number n ≡ b → IsCommand x → Ascends x.number xs l
    → ((u : Table) → table_served a n (map command_at xs) u ≡ tables_after a (sooner n xs) u)
    → table_served a n (map command_at (x ∷ xs)) t ≡ tables_after a (sooner n (x ∷ xs)) t
served_when true a n l x xs t e c h ih =
    ap (λ b. if b then table_served a n (map command_at xs) (command_taken a (front x.packet.payload) t) else t) e
    ∙ ih (command_taken a (front x.packet.payload) t)
    ∙ ap (tables_after a (sooner n xs)) (taken_as a x t c)
    ∙ sym (ap (λ q. tables_after a q t) (keeps (λ y. nat_le y.number n) x xs e))
served_when false a n l x xs t e c h ih =
    let lt = leb-false x.number n e in
    ap (λ b. if b then table_served a n (map command_at xs) (command_taken a (front x.packet.payload) t) else t) e
    ∙ sym (ap (λ q. tables_after a q t) (skips (λ y. nat_le y.number n) x xs e ∙ none_sooner n x.number l xs (omega (arith, lt)) h))

served_is : (a : Agreed) (n m l : ℕ) (xs : List Numbered) (t : Table) → Ascends m xs l → AreCommands xs → table_served a n (map command_at xs) t ≡ tables_after a (sooner n xs) t
served_is a n m l [] t h c = refl
served_is a n m l (x ∷ xs) t h c = served_when (nat_le x.number n) a n l x xs t refl c.0 h.1 (λ u. served_is a n x.number l xs u h.1 c.1)

-- ---- those that stay waiting

no_less : (m n : ℕ) (b : Bool) → nat_lt m n ≡ b → n ≤ m → b ≡ false
no_less m n true e h = absurd (let k = ltb-true m n e in omega (arith, k, h))
no_less m n false e h = refl

left_when : (b : Bool) (n l : ℕ) (x : Numbered) (xs : List Numbered) → nat_le x.number n ≡ b → Ascends x.number xs l
    → left_waiting n (map command_at xs) ≡ map command_at (later n xs) → left_waiting n (map command_at (x ∷ xs)) ≡ map command_at (later n (x ∷ xs))
left_when true n l x xs e h ih =
    ap (λ b. if b then left_waiting n (map command_at xs) else command_at x ∷ map command_at xs) e ∙ ih
    ∙ sym (ap (map command_at) (skips (λ y. nat_lt n y.number) x xs (no_less n x.number (nat_lt n x.number) refl (leb-true x.number n e))))
left_when false n l x xs e h ih =
    let lt = leb-false x.number n e in
    ap (λ b. if b then left_waiting n (map command_at xs) else command_at x ∷ map command_at xs) e
    ∙ sym (ap (map command_at) (keeps (λ y. nat_lt n y.number) x xs (lt-ltb n x.number lt) ∙ ap (λ q. x ∷ q) (all_later n x.number l xs (omega (arith, lt)) h)))

left_is : (n m l : ℕ) (xs : List Numbered) → Ascends m xs l → left_waiting n (map command_at xs) ≡ map command_at (later n xs)
left_is n m l [] h = refl
left_is n m l (x ∷ xs) h = left_when (nat_le x.number n) n l x xs refl h.1 (left_is n x.number l xs h.1)

later_both : (b d : Bool) (m n : ℕ) (x : Numbered) (xs : List Numbered) → nat_lt m x.number ≡ b → nat_lt n x.number ≡ d → m ≤ n
    → later n (later m xs) ≡ later n xs → later n (later m (x ∷ xs)) ≡ later n (x ∷ xs)
later_both true true m n x xs e g h ih =
    ap (later n) (keeps (λ y. nat_lt m y.number) x xs e) ∙ keeps (λ y. nat_lt n y.number) x (later m xs) g ∙ ap (λ q. x ∷ q) ih ∙ sym (keeps (λ y. nat_lt n y.number) x xs g)
later_both true false m n x xs e g h ih =
    ap (later n) (keeps (λ y. nat_lt m y.number) x xs e) ∙ skips (λ y. nat_lt n y.number) x (later m xs) g ∙ ih ∙ sym (skips (λ y. nat_lt n y.number) x xs g)
later_both false true m n x xs e g h ih = absurd (let k = ltb-false m x.number e in let j = ltb-true n x.number g in omega (arith, k, j, h))
later_both false false m n x xs e g h ih = ap (later n) (skips (λ y. nat_lt m y.number) x xs e) ∙ ih ∙ sym (skips (λ y. nat_lt n y.number) x xs g)

later_later : (m n : ℕ) (xs : List Numbered) → m ≤ n → later n (later m xs) ≡ later n xs
later_later m n [] h = refl
later_later m n (x ∷ xs) h = later_both (nat_lt m x.number) (nat_lt n x.number) m n x xs refl refl h (later_later m n xs h)

-- ---- their numbers ascend

ascends_up : (m l : ℕ) (xs : List Numbered) → Ascends m xs l → m ≤ l
ascends_up m l [] h = h
ascends_up m l (x ∷ xs) h = let k = ascends_up x.number l xs h.1 in omega (arith, h.0, k)

ascends_higher : (m l k : ℕ) (xs : List Numbered) → l ≤ k → Ascends m xs l → Ascends m xs k
ascends_higher m l k [] le h = omega (arith, le, h)
ascends_higher m l k (x ∷ xs) le h = (h.0, ascends_higher x.number l k xs le h.1)

ascends_more : (m l : ℕ) (xs : List Numbered) (x : Numbered) → Ascends m xs l → x.number ≡ l + 1 → Ascends m (xs ++ x ∷ []) (l + 1)
ascends_more m l [] x h e = (omega (arith, h, e), omega (arith, e))
ascends_more m l (y ∷ ys) x h e = (h.0, ascends_more y.number l ys x h.1 e)

later_when : (b : Bool) (n m l k : ℕ) (x : Numbered) (xs : List Numbered) → nat_lt n x.number ≡ b → Ascends x.number xs l → l ≤ k
    → Ascends n (later n xs) k → Ascends n (later n (x ∷ xs)) k
later_when true n m l k x xs e h le ih =
    let lt = ltb-true n x.number e in
    subst (λ q. Ascends n q k) (sym (keeps (λ y. nat_lt n y.number) x xs e ∙ ap (λ q. x ∷ q) (all_later n x.number l xs (omega (arith, lt)) h)))
    (lt, ascends_higher x.number l k xs le h)
later_when false n m l k x xs e h le ih = subst (λ q. Ascends n q k) (sym (skips (λ y. nat_lt n y.number) x xs e)) ih

later_ascends : (n m l k : ℕ) (xs : List Numbered) → Ascends m xs l → l ≤ k → n ≤ k → Ascends n (later n xs) k
later_ascends n m l k [] h le up = up
later_ascends n m l k (x ∷ xs) h le up = later_when (nat_lt n x.number) n m l k x xs refl h.1 le (later_ascends n x.number l k xs h.1 le up)

-- ---- they are commands

commands_when : (b : Bool) (x : Numbered) (xs : List Numbered) → IsCommand x → AreCommands xs → AreCommands (cond b (x ∷ xs) xs)
commands_when true x xs h t = (h, t)
commands_when false x xs h t = t

commands_filter : (test : Numbered → Bool) (xs : List Numbered) → AreCommands xs → AreCommands (filter test xs)
commands_filter test [] h = tt
commands_filter test (x ∷ xs) h = commands_when (test x) x (filter test xs) h.0 (commands_filter test xs h.1)

commands_more : (xs : List Numbered) (x : Numbered) → AreCommands xs → IsCommand x → AreCommands (xs ++ x ∷ [])
commands_more [] x h c = (c, tt)
commands_more (y ∷ ys) x h c = (h.0, commands_more ys x h.1 c)

map_more : (xs : List Numbered) (x : Numbered) → map command_at (xs ++ x ∷ []) ≡ map command_at xs ++ command_at x ∷ []
map_more [] x = refl
map_more (y ∷ ys) x = ap (λ q. command_at y ∷ q) (map_more ys x)

tables_more : (a : Agreed) (xs : List Numbered) (x : Numbered) (t : Table) → tables_after a (xs ++ x ∷ []) t ≡ after true a x.packet.kind x.packet.payload (tables_after a xs t)
tables_more a [] x t = refl
tables_more a (y ∷ ys) x t = tables_more a ys x (after true a y.packet.kind y.packet.payload t)

tables_append : (a : Agreed) (xs ys : List Numbered) (t : Table) → tables_after a (xs ++ ys) t ≡ tables_after a ys (tables_after a xs t)
tables_append a [] ys t = refl
tables_append a (x ∷ xs) ys t = tables_append a xs ys (after true a x.packet.kind x.packet.payload t)

-- ---- the table after packets

-- the table is that of the exchanges up to the server's, and the commands after it wait
pub record InOrder (a : Agreed) (t : Table) (items : List Numbered) (at last : ℕ) (f : Tracked) : Type 0 where
  pub lost : f.lost ≡ None
  pub table : f.table ≡ tables_after a (up_to at items) t
  pub queue : f.early.commands ≡ map command_at (later at items)
  pub ascends : Ascends at (later at items) last
  pub commands : AreCommands (later at items)

held_when : (b : Bool) (n : ℕ) (p : List ℕ) (f : Tracked) → b ≡ true → has_place f.early (front p) ≡ b
    → held true n p f ≡ record { table = f.table; early = record { limits = f.early.limits; commands = f.early.commands ++ command n (front p) ∷ [] }; lost = f.lost; params = None; reached = None }
held_when true n p f e h = rw h refl
held_when false n p f e h = absurd cc

early_in_order : (a : Agreed) (t : Table) (items : List Numbered) (at last : ℕ) (f : Tracked) (x : Numbered) → InOrder a t items at last f
    → x.number ≡ last + 1 → IsCommand x → IsTrue (has_place f.early (front x.packet.payload)) → InOrder a t (items ++ x ∷ []) at (last + 1) (held true x.number x.packet.payload f)
early_in_order a t items at last f x h e c place =
    let up = ascends_up at last (later at items) h.ascends in
    let lt : at < x.number = omega (arith, up, e) in
    let more : later at (items ++ x ∷ []) ≡ later at items ++ x ∷ [] =
    filter_append (λ y. nat_lt at y.number) items (x ∷ []) ∙ ap (λ q. later at items ++ q) (keeps (λ y. nat_lt at y.number) x [] (lt-ltb at x.number lt)) in
    subst (λ g. InOrder a t (items ++ x ∷ []) at (last + 1) g) (sym (held_when true x.number x.packet.payload f refl place))
    (record {
      lost = h.lost;
      table = h.table ∙ ap (λ q. tables_after a q t) (sym (up_to_same at items x lt));
      queue = ap (λ q. q ++ command_at x ∷ []) h.queue ∙ sym (map_more (later at items) x) ∙ ap (map command_at) (sym more);
      ascends = subst (λ q. Ascends at q (last + 1)) (sym more) (ascends_more at last (later at items) x h.ascends e);
      commands = subst AreCommands (sym more) (commands_more (later at items) x h.commands c);
    })

not_later : (n : ℕ) (items : List Numbered) (x : Numbered) → x.number ≡ n → later n (items ++ x ∷ []) ≡ later n items
not_later n items x e =
    filter_append (λ y. nat_lt n y.number) items (x ∷ [])
    ∙ ap (λ q. later n items ++ q) (skips (λ y. nat_lt n y.number) x [] (no_less n x.number (nat_lt n x.number) refl (omega (arith, e))))
    ∙ append-nil (later n items)

-- the exchanges up to a later one are those up to this one, and their waiting commands
up_to_at : (at last n : ℕ) (items : List Numbered) → at ≤ n → Ascends at (later at items) last → up_to n items ≡ up_to at items ++ sooner n (later at items)
up_to_at at last n items le h =
    let e : (n - at) + at ≡ n = omega (arith, le) in
    ap (λ k. up_to k items) (sym e) ∙ up_to_later (n - at) at last items h ∙ ap (λ k. up_to at items ++ sooner k (later at items)) e

served_table : (a : Agreed) (t : Table) (items : List Numbered) (at last n : ℕ) (f : Tracked) → InOrder a t items at last f → at ≤ n
    → table_served a n f.early.commands f.table ≡ tables_after a (up_to n items) t
served_table a t items at last n f h le =
    ap (λ q. table_served a n q f.table) h.queue
    ∙ served_is a n at last (later at items) f.table h.ascends h.commands
    ∙ ap (tables_after a (sooner n (later at items))) h.table
    ∙ sym (tables_append a (up_to at items) (sooner n (later at items)) t)
    ∙ ap (λ q. tables_after a q t) (sym (up_to_at at last n items le h.ascends))

taken_when : (lost : Option ℕ) (a : Agreed) (x : Numbered) (f : Tracked) → f.lost ≡ lost → lost ≡ None
    → (taken true true a x.packet.kind x.number x.packet.payload f).lost ≡ None
    × ((taken true true a x.packet.kind x.number x.packet.payload f).table ≡ after true a x.packet.kind x.packet.payload (table_served a x.number f.early.commands f.table))
    × ((taken true true a x.packet.kind x.number x.packet.payload f).early.commands ≡ left_waiting x.number f.early.commands)
taken_when None a x f e n = rw e (refl, refl, refl)
taken_when (Some k) a x f e n = absurd cc

turn_in_order : (a : Agreed) (t : Table) (items : List Numbered) (at last : ℕ) (f : Tracked) (x : Numbered) → InOrder a t items at last f
    → at ≤ x.number → InOrder a t (items ++ x ∷ []) x.number (max last x.number) (taken true true a x.packet.kind x.number x.packet.payload f)
turn_in_order a t items at last f x h le =
    let r = taken_when None a x f h.lost refl in
    let same : later x.number (items ++ x ∷ []) ≡ later x.number (later at items) = not_later x.number items x refl ∙ sym (later_later at x.number items le) in
    record {
      lost = r.0;
      table = r.1 ∙ ap (after true a x.packet.kind x.packet.payload) (served_table a t items at last x.number f h le)
          ∙ sym (tables_more a (up_to x.number items) x t) ∙ ap (λ q. tables_after a q t) (sym (up_to_more x.number items x refl));
      queue = r.2 ∙ ap (left_waiting x.number) h.queue ∙ left_is x.number at last (later at items) h.ascends ∙ ap (map command_at) (sym same);
      ascends = subst (λ q. Ascends x.number q (max last x.number)) (sym same)
          (later_ascends x.number at last (max last x.number) (later at items) h.ascends (omega arith) (omega arith));
      commands = subst AreCommands (sym same) (commands_filter (λ y. nat_lt x.number y.number) (later at items) h.commands);
    }

step_in_order : (is_early : Bool) (a : Agreed) (t : Table) (items : List Numbered) (at last : ℕ) (f : Tracked) (x : Numbered) → InOrder a t items at last f → IsNext is_early at last x
    → (is_early ≡ true → IsTrue (has_place f.early (front x.packet.payload)))
    → InOrder a t (items ++ x ∷ []) (at_after is_early at x) (max last x.number) (tracked_after true true is_early a x.packet.kind x.number x.packet.payload f)
step_in_order true a t items at last f x h n p =
    let e : last + 1 ≡ max last x.number = (let k = n.0 in omega (arith, k)) in
    subst (λ l. InOrder a t (items ++ x ∷ []) at l (held true x.number x.packet.payload f)) e (early_in_order a t items at last f x h n.0 n.1 (p refl))
step_in_order false a t items at last f x h n p = turn_in_order a t items at last f x h n

pub stays_in_order : (a : Agreed) (t : Table) (steps : List Step) (items : List Numbered) (at last : ℕ) (f : Tracked) → InOrder a t items at last f
    → AreOrderly at last steps → HavePlaces a steps f
    → (end : ℕ) × InOrder a t (items ++ items_of steps) (at_last at steps) end (after_steps a steps f)
stays_in_order a t [] items at last f h o p = (last, subst (λ q. InOrder a t q at last f) (sym (append-nil items)) h)
stays_in_order a t (s ∷ ss) items at last f h o p =
    let r = stays_in_order a t ss (items ++ s.item ∷ []) (at_after s.is_early at s.item) (max last s.item.number) (step_after a s f)
    (step_in_order s.is_early a t items at last f s.item h o.0 p.0) o.1 p.1 in
    (r.0, subst (λ q. InOrder a t q (at_last (at_after s.is_early at s.item) ss) r.0 (after_steps a ss (step_after a s f))) (append_assoc items (s.item ∷ []) (items_of ss)) r.1)
