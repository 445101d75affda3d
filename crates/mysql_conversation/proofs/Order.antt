-- The packets of each side keep their order, and none precedes its command.
use Rattle.mysql_conversation.specs.Agreements.{Agreed}
use Rattle.std.proofs.Common.{◌≡◌, ◌≤◌, ℕ, ◌+◌, List, [], ◌∷◌, ◌++◌, inl, inr, refl, sym, ap, subst, ◌∙◌, Bool, true, false, arith}
use Rattle.std.specs.Prelude.{if◌then◌else◌}
use Rattle.std.proofs.lemmas.Bool.{and_parts}
use Rattle.mysql_conversation.specs.Conversation.{Packet, commands, asks}
use Rattle.mysql_conversation.specs.Pipelined.{Numbered, is_client, is_command, counted, AreNumbered, ArePassed, Early, IsPipelined}
use Rattle.mysql_conversation.specs.Order.{from_client, from_server, FollowCommands, IsInterleaved}
use Rattle.mysql_conversation.specs.declared.packet_kind.InitialPhase.{InitialPhase}
use Rattle.mysql_conversation.specs.declared.packet_kind.Side.TheVariants.{Server}

client_of : (x : Packet) → is_command x ≡ true → is_client x.from ≡ true
client_of x h = (and_parts (is_client x.from) (commands x.kind) h).0

same_client : (x : Numbered) (xs ys : List Numbered) → from_client xs ≡ from_client ys → from_client (x ∷ xs) ≡ from_client (x ∷ ys)
same_client x xs ys e = rw e refl

same_server : (x : Numbered) (xs ys : List Numbered) → from_server xs ≡ from_server ys → from_server (x ∷ xs) ≡ from_server (x ∷ ys)
same_server x xs ys e = rw e refl

moved_client : (x : Numbered) (front back : List Numbered) → is_command x.packet ≡ true → ArePassed front → from_client (front ++ x ∷ back) ≡ from_client (x ∷ front ++ back)
moved_client x [] back c f = refl
moved_client x (y ∷ front) back c f = rw (f.0) (moved_client x front back c f.2)

moved_server : (x : Numbered) (front back : List Numbered) → is_command x.packet ≡ true → from_server (front ++ x ∷ back) ≡ from_server (front ++ back)
moved_server x [] back c = rw (client_of x.packet c) refl
moved_server x (y ∷ front) back c = rw (moved_server x front back c) refl

early_client : (b : Bool) (items others : List Numbered) → Early b items others → from_client items ≡ from_client others
early_client b [] others h = ap from_client (sym h)
early_client b (x ∷ items) others (inl h) = same_client x items h.0 (early_client (asks x.packet.kind) items h.0 h.2) ∙ ap from_client (sym h.1)
early_client b (x ∷ items) others (inr h) =
    same_client x items (h.0 ++ h.1) (early_client false items (h.0 ++ h.1) h.5) ∙ sym (moved_client x h.0 h.1 h.2 h.3) ∙ ap from_client (sym h.4)

server_less : (x : Numbered) (xs : List Numbered) → is_command x.packet ≡ true → from_server (x ∷ xs) ≡ from_server xs
server_less x xs c = rw (client_of x.packet c) refl

early_server : (b : Bool) (items others : List Numbered) → Early b items others → from_server items ≡ from_server others
early_server b [] others h = ap from_server (sym h)
early_server b (x ∷ items) others (inl h) = same_server x items h.0 (early_server (asks x.packet.kind) items h.0 h.2) ∙ ap from_server (sym h.1)
early_server b (x ∷ items) others (inr h) =
    server_less x items h.2 ∙ early_server false items (h.0 ++ h.1) h.5 ∙ sym (moved_server x h.0 h.1 h.2) ∙ ap from_server (sym h.4)

-- ---- none before its command

counted_more : (n : ℕ) (x : Packet) → counted n x ≤ counted (n + 1) x
counted_more n x = elim (is_command x) as (λ b. (if b then n + 1 else n) ≤ (if b then n + 1 + 1 else n + 1)) [ true ↦ omega arith | false ↦ omega arith ]

le_through : (a b c : ℕ) → a ≤ b → b ≤ c → a ≤ c
le_through a b c x y = omega arith

numbered_follow : (n : ℕ) (xs : List Numbered) → AreNumbered n xs → FollowCommands n xs
numbered_follow n [] h = tt
numbered_follow n (x ∷ xs) h = (subst (λ m. m ≤ counted n x.packet) (sym h.0) (omega arith), numbered_follow (counted n x.packet) xs h.1)

server_counts : (n : ℕ) (x : Packet) → x.from ≡ Server → counted n x ≡ n
server_counts n x e = rw e refl

command_counts : (n : ℕ) (x : Packet) → is_command x ≡ true → counted n x ≡ n + 1
command_counts n x e = rw e refl

moved_follow : (n : ℕ) (x : Numbered) (front back : List Numbered) → is_command x.packet ≡ true → ArePassed front → FollowCommands n (front ++ x ∷ back)
    → (x.number ≤ n + 1) × FollowCommands (n + 1) (front ++ back)
moved_follow n x [] back c f h =
    (subst (λ m. x.number ≤ m) (command_counts n x.packet c) h.0, subst (λ m. FollowCommands m back) (command_counts n x.packet c) h.1)
moved_follow n x (y ∷ front) back c f h =
    let r = moved_follow n x front back c f.2 (subst (λ m. FollowCommands m (front ++ x ∷ back)) (server_counts n y.packet f.0) h.1) in (
      r.0,
      (
        le_through y.number (counted n y.packet) (counted (n + 1) y.packet) h.0 (counted_more n y.packet),
        subst (λ m. FollowCommands m (front ++ back)) (sym (server_counts (n + 1) y.packet f.0)) r.1,
      ),
    )

early_follow : (n : ℕ) (b : Bool) (items others : List Numbered) → Early b items others → FollowCommands n others → FollowCommands n items
early_follow n b [] others h g = tt
early_follow n b (x ∷ items) others (inl h) g =
    let q : FollowCommands n (x ∷ h.0) = subst (λ xs. FollowCommands n xs) h.1 g in
    (q.0, early_follow (counted n x.packet) (asks x.packet.kind) items h.0 h.2 q.1)
early_follow n b (x ∷ items) others (inr h) g =
    let q = moved_follow n x h.0 h.1 h.2 h.3 (subst (λ xs. FollowCommands n xs) h.4 g) in (
      subst (λ m. x.number ≤ m) (sym (command_counts n x.packet h.2)) q.0,
      early_follow (counted n x.packet) false items (h.0 ++ h.1) h.5 (subst (λ m. FollowCommands m (h.0 ++ h.1)) (sym (command_counts n x.packet h.2)) q.1),
    )

pub pipelined_is_interleaved : (d : Agreed) (o : InitialPhase) (items : List Numbered) → IsPipelined d o items → IsInterleaved d o items
pipelined_is_interleaved d o items h =
    (h.0, h.1, early_client false items h.0 h.3, early_server false items h.0 h.3, early_follow 0 false items h.0 h.3 (numbered_follow 0 h.0 h.2))
