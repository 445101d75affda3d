-- The waiting commands in an array of eight bytes.
use Rattle.std.proofs.Common.{◌≡◌, ℕ, suc, ◌+◌, ◌-◌, ◌<◌, ◌≤◌, List, [], ◌∷◌, ◌++◌, length, take, get_or, set, Bool, true, false, cond, Option, Some, None, refl, sym, ap, subst, ◌∙◌, inl, inr, arith}
use Rattle.std.proofs.lemmas.Bool.{cases_Bool, eqb-true}
use Rattle.std.proofs.lemmas.List.{take-append-le, take_more, length-take-le}
use Rattle.std.proofs.lemmas.Grind.{take-set_at}
use Rattle.std.specs.Prelude.{◌==◌}
use Rattle.mysql_wire.specs.CommandCodes.{COM_STMT_EXECUTE}
use Rattle.mysql_conversation.specs.Conversation.{answering, code_of}
use Rattle.mysql_conversation.specs.Payloads.{asks_cursor}
use Rattle.mysql_conversation.specs.PipelineState.{byte_of, command_at, command_in, numbered_from, queue, stands_in}
use Rattle.mysql_conversation.specs.Standing.{command_of, early, is_quit, kind_of, known, push, quits, standing, wait}
use Rattle.mysql_conversation.proofs.Classes.{some_is}
use Rattle.mysql_conversation.proofs.PipeSteps.{quits_last}
use Rattle.mysql_conversation.specs.declared.pipeline_state.PipelineState.{PipelineState}
use Rattle.mysql_conversation.specs.declared.state.Answer.{Answer}
use Rattle.mysql_conversation.specs.declared.state.Command.{Command}
use Rattle.mysql_conversation.specs.declared.state.State.{State}

-- ---- the byte of a command

-- only an execution's answer depends on the request for a cursor
same_answer : (n : ℕ) (b c : Bool) → (n == COM_STMT_EXECUTE) ≡ false → answering n b ≡ answering n c
same_answer n b c h = rw h refl

execution_again : (b : Bool) (c : Command) → known COM_STMT_EXECUTE (answering COM_STMT_EXECUTE b) ≡ Some c → command_at (byte_of c) ≡ c
unfolding command_at
execution_again true c h = subst (λ c. command_at (byte_of c) ≡ c) (some_is h) refl
execution_again false c h = subst (λ c. command_at (byte_of c) ≡ c) (some_is h) refl

other_again : (n : ℕ) (b : Bool) (r : Option Answer) (c : Command) → (n == COM_STMT_EXECUTE) ≡ false → answering n b ≡ r → known n r ≡ Some c → command_at (byte_of c) ≡ c
unfolding command_at
other_again n b None c h e k = absurd cc
other_again n b (Some a) c h e k =
    let code : c.code ≡ n = ap (λ (c : Command). c.code) (sym (some_is k)) in
    let byte : byte_of c ≡ n = rw (code, h) refl in
    ap command_at byte ∙ ap (command_in n) (same_answer n false b h ∙ e) ∙ some_is k

known_again : (n : ℕ) (b : Bool) (c : Command) → known n (answering n b) ≡ Some c → command_at (byte_of c) ≡ c
known_again n b c h = elim (cases_Bool (n == COM_STMT_EXECUTE)) [
  | inl e ↦ execution_again b c (subst (λ n. known n (answering n b) ≡ Some c) (eqb-true n COM_STMT_EXECUTE e) h)
  | inr e ↦ other_again n b (answering n b) c e refl h
]

-- a payload's command is the one with its byte
pub command_again : (p : List ℕ) (c : Command) → command_of p ≡ Some c → command_at (byte_of c) ≡ c
command_again p c h = known_again (code_of p) (asks_cursor p) c h

-- ---- the first one leaves

abbrev pub shifted : List ℕ → List ℕ
shifted w = get_or w 1 0 ∷ get_or w 2 0 ∷ get_or w 3 0 ∷ get_or w 4 0 ∷ get_or w 5 0 ∷ get_or w 6 0 ∷ get_or w 7 0 ∷ 0 ∷ []

without_first : (w : List ℕ) (k : ℕ) → length w ≡ 8 → k ≤ 7 → take (k + 1) w ≡ get_or w 0 0 ∷ take k (shifted w)
without_first (s ∷ t ∷ u ∷ v ∷ w ∷ x ∷ y ∷ z ∷ []) k l h =
    let tail : List ℕ = t ∷ u ∷ v ∷ w ∷ x ∷ y ∷ z ∷ [] in
    let more : k + 1 ≡ suc k = omega arith in
    ap (λ n. take n (s ∷ tail)) more ∙ ap (λ xs. s ∷ xs) (sym (take-append-le k tail (0 ∷ []) h))
without_first _ k l h = absurd (omega arith)

pub popped : (n l : ℕ) (w : List ℕ) (c : Command) → length w ≡ 8 → n < l → l ≤ n + 8 → c ≡ command_at (get_or w 0 0)
    → numbered_from (n + 1) (take (l - n) w) ≡ wait c (n + 1) ∷ numbered_from (n + 1 + 1) (take (l - (n + 1)) (shifted w))
popped n l w c e a b h =
    let k : l - n ≡ l - (n + 1) + 1 = omega arith in
    ap (λ d. numbered_from (n + 1) (take d w)) k
    ∙ ap (λ xs. numbered_from (n + 1) xs) (without_first w (l - (n + 1)) e (omega arith))
    ∙ ap (λ c. wait c (n + 1) ∷ numbered_from (n + 1 + 1) (take (l - (n + 1)) (shifted w))) (sym h)

-- ---- one more

pub numbered_length : (n : ℕ) (xs : List ℕ) → length (numbered_from n xs) ≡ length xs
numbered_length n [] = refl
numbered_length n (x ∷ xs) = ap suc (numbered_length (n + 1) xs)

pub queue_length : (s : PipelineState) → length s.waiting ≡ 8 → s.last ≤ s.number + 8 → length (queue s) ≡ s.last - s.number
queue_length s e h = numbered_length (s.number + 1) (take (s.last - s.number) s.waiting) ∙ length-take-le (s.last - s.number) s.waiting (omega arith)

one_more : (n : ℕ) (xs : List ℕ) (b : ℕ) → numbered_from n (xs ++ b ∷ []) ≡ numbered_from n xs ++ wait (command_at b) (n + length xs) ∷ []
one_more n [] b = ap (λ k. wait (command_at b) k ∷ []) (omega arith)
one_more n (x ∷ xs) b = ap (λ q. wait (command_at x) n ∷ q) (one_more (n + 1) xs b ∙ ap (λ k. numbered_from (n + 1) xs ++ wait (command_at b) k ∷ []) (omega arith))

pub pushed : (n l : ℕ) (w : List ℕ) (b : ℕ) → n ≤ l → l < n + 8 → length w ≡ 8
    → numbered_from (n + 1) (take (l + 1 - n) (set w (l - n) b)) ≡ numbered_from (n + 1) (take (l - n) w) ++ wait (command_at b) (l + 1) ∷ []
pushed n l w b a r e =
    let s : take (l + 1 - n) (set w (l - n) b) ≡ take (l - n) w ++ b ∷ [] = take-set_at w (l - n) (l + 1 - n) b (omega arith) (omega arith) in
    let k : n + 1 + length (take (l - n) w) ≡ l + 1 = omega (arith, length-take-le (l - n) w (omega arith)) in
    ap (λ xs. numbered_from (n + 1) xs) s ∙ one_more (n + 1) (take (l - n) w) b ∙ ap (λ k. numbered_from (n + 1) (take (l - n) w) ++ wait (command_at b) k ∷ []) k

-- ---- the last one

pub last_of : (n l : ℕ) (w : List ℕ) → n < l → l ≤ n + 8 → length w ≡ 8 → quits (numbered_from (n + 1) (take (l - n) w)) ≡ is_quit (command_at (get_or w (l - n - 1) 0)).answer
last_of n l w a b e =
    let d = l - n - 1 in
    let s : take (l - n) w ≡ take d w ++ get_or w d 0 ∷ [] = ap (λ k. take k w) (omega arith) ∙ take_more w d 0 (omega arith) in
    ap (λ xs. quits (numbered_from (n + 1) xs)) s ∙ ap quits (one_more (n + 1) (take d w) (get_or w d 0)) ∙ quits_last (numbered_from (n + 1) (take d w)) (wait (command_at (get_or w d 0)) (n + 1 + length (take d w)))

-- ---- a command that waits

pub early_is : (m : State) (s : PipelineState) (p : List ℕ) (c : Command) (l count byte : ℕ) → length s.waiting ≡ 8 → s.number ≤ s.last → s.last < s.number + 8
    → command_of p ≡ Some c → quits (queue s) ≡ false → l ≡ s.last + 1 → count ≡ s.last - s.number → byte ≡ byte_of c
    → early (stands_in m s) (command_of p) ≡ Some (kind_of c, l, standing m s.number l (numbered_from (s.number + 1) (take (l - s.number) (set s.waiting count byte))))
early_is m s p c l count byte w a b e q h k f =
    let again : command_at byte ≡ c = ap command_at f ∙ command_again p c e in
    let more = pushed s.number s.last s.waiting byte a b w ∙ ap (λ c. queue s ++ wait c (s.last + 1) ∷ []) again in
    let set : numbered_from (s.number + 1) (take (l - s.number) (set s.waiting count byte)) ≡ queue s ++ wait c (s.last + 1) ∷ [] =
    ap (λ l. numbered_from (s.number + 1) (take (l - s.number) (set s.waiting count byte))) h ∙ ap (λ n. numbered_from (s.number + 1) (take (s.last + 1 - s.number) (set s.waiting n byte))) k ∙ more in
    ap (λ c. early (stands_in m s) c) e
    ∙ ap (λ b. cond b None (Some (kind_of c, s.last + 1, push (stands_in m s) c))) q
    ∙ ap (λ l. Some (kind_of c, l, standing m s.number l (queue s ++ wait c (s.last + 1) ∷ []))) (sym h)
    ∙ ap (λ q. Some (kind_of c, l, standing m s.number l q)) (sym set)
