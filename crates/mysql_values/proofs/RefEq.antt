-- Borrowed values compare equal if their contents are equal, and convert like the values.
use Rattle.std.proofs.Common.{◌≡◌, ◌∙◌, ◌↔◌, IsTrue, ℕ, ℤ, true, rules, ap, sym, subst}
use Rattle.std.specs.Global.{Vec, Global}
use Rattle.std.specs.Prelude.{String}
use Rattle.std.specs.String.{string_vec}
use Rattle.mysql_values.specs.declared.value.Value.{Value}
use Rattle.mysql_values.specs.declared.value.Value.TheVariants as value
use Rattle.mysql_values.specs.declared.value_ref.ValueRef.{ValueRef}
use Rattle.mysql_values.specs.contracts.value_ref.ValueRefPartialEq.TheImpl as derived
use Rattle.mysql_values.specs.Value.{Content, content_of}
use Rattle.mysql_values.specs.ValueRef.{ref_content}
use Rattle.mysql_values.specs.ContentEq.{content_eq, content_equiv}
use Rattle.mysql_values.specs.FromValue.{AsI64, AsU64, AsBytes, AsText}
use Rattle.mysql_values.specs.FromValueRef.{ContentAsI64, ContentAsU64, ContentAsBytes, ContentAsText}
use Rattle.mysql_values.proofs.ContentEq.{content_eq-same}

same_content : (a b : ValueRef) → derived.ghosts.eq a b ≡ content_eq (ref_content a) (ref_content b)
same_content a b = search rules

pub equal-refs : (a b : ValueRef) → IsTrue (derived.ghosts.eq a b) ↔ (ref_content a ≡ ref_content b)
equal-refs a b = (
  λ e. content_eq-same (ref_content a) (ref_content b) (sym (same_content a b) ∙ e),
  λ e. same_content a b ∙ subst (λ (c : Content). content_eq (ref_content a) c ≡ true) e (content_equiv.refl (ref_content a)),
)

pub signed-alike : (v : Value) (x : ℤ) → AsI64 v x ↔ ContentAsI64 (content_of v) x
signed-alike (value.Int n) x = (λ h. h, λ h. h)
signed-alike (value.UInt n) x = (λ h. h, λ h. h)
signed-alike (value.Bytes bytes) x = (λ h. h, λ h. h)
signed-alike _ x = (λ h. h, λ h. h)

pub unsigned-alike : (v : Value) (n : ℕ) → AsU64 v n ↔ ContentAsU64 (content_of v) n
unsigned-alike (value.Int n) x = (λ h. h, λ h. h)
unsigned-alike (value.UInt n) x = (λ h. h, λ h. h)
unsigned-alike (value.Bytes bytes) x = (λ h. h, λ h. h)
unsigned-alike _ x = (λ h. h, λ h. h)

pub bytes-alike : (v : Value) (bytes : Vec ℕ) → AsBytes v bytes → ContentAsBytes (content_of v) bytes.items
bytes-alike (value.Bytes bytes) b h = ap (λ (v : Vec ℕ). v.items) (sym h)
bytes-alike _ b h = absurd h

pub text-alike : (v : Value) (text : String Global) → AsText v text → ContentAsText (content_of v) (string_vec text).items
text-alike (value.Bytes bytes) text h = (ap (λ (v : Vec ℕ). v.items) h.0, h.1)
text-alike _ text h = absurd h

pub ruleset equal_value_refs = (equal-refs)

pub ruleset converts_alike = (signed-alike, unsigned-alike, bytes-alike, text-alike)
