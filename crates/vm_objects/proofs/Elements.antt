-- How the elements of an outer array are filled, one after another.
use Rattle.std.proofs.Common.{◌≡◌, ℕ, suc, List, [], ◌∷◌, ◌++◌, ◌-◌, ◌<◌, ◌≤◌, ◌+◌, ap, ◌∙◌, subst, arith}
use Rattle.jvm_model.specs.declared.{values.Touch.Touch, values.Value.Value, values.Kind.Kind, values.Value.TheVariants.Obj, program.Program.Program}
use Rattle.jvm_model.specs.declared.values.Location.TheVariants as place
use Rattle.jvm_model.specs.{World.World, World.put, Entries.Entries, Rows.goes_on, RowsCreate.children, RowsCreate.nest, RowsCreate.nested}
use Rattle.jvm_model.specs.Access.{Access, done, write, bind, write_of}
use Rattle.jvm_model.specs.View.{counted, ended, and_then, touched, Exists, IsSafe, Any}
use Rattle.vm_mem.specs.Trace.{Trace}
use Rattle.jvm_model.proofs.Binds.{counted_bind, touched_bind, safe_begins, safe_rest}

one_less : (n i : ℕ) → i < n → n - i ≡ suc (n - (i + 1))
one_less n i h = omega arith

opened : (n i o : ℕ) (one : Access ℕ) → i < n → children (n - i) i o one ≡ bind one (λ q. write (place.Elem o i) (Obj q) (children (n - (i + 1)) (i + 1) o one))
unfolding children
opened n i o one h = ap (λ m. children m i o one) (one_less n i h)

module _ (n i o : ℕ) (one : Access ℕ) (w w' : World) (q : ℕ) (h : i < n) (e : (left : ℕ) → counted one w left ≡ ended q w' left) where
  pub child_counted : (left : ℕ) → counted (children (n - i) i o one) w left ≡ counted (children (n - (i + 1)) (i + 1) o one) (put w' (place.Elem o i) (Obj q)) left
  child_counted left = ap (λ t. counted t w left) (opened n i o one h) ∙ counted_bind one _ w left ∙ ap (λ r. and_then r (λ x. write (place.Elem o i) (Obj x) (children (n - (i + 1)) (i + 1) o one))) (e left)

  pub child_touched : (ts : List Touch) → touched (children (n - i) i o one) w ts ≡ touched (children (n - (i + 1)) (i + 1) o one) (put w' (place.Elem o i) (Obj q)) (touched one w ts ++ (write_of (place.Elem o i) ∷ []))
  child_touched ts = ap (λ t. touched t w ts) (opened n i o one h) ∙ touched_bind one _ w 0 q w' 0 (e 0) ts

  pub child_safe : IsSafe Any (children (n - i) i o one) w → Exists w' (place.Elem o i) × IsSafe Any (children (n - (i + 1)) (i + 1) o one) (put w' (place.Elem o i) (Obj q))
  child_safe s = safe_rest Any one (λ x. write (place.Elem o i) (Obj x) (children (n - (i + 1)) (i + 1) o one)) w 0 q w' 0 (e 0) (subst (λ t. IsSafe Any t w) (opened n i o one h) s)

pub one_safe : (n i o : ℕ) (one : Access ℕ) (w : World) → i < n → IsSafe Any (children (n - i) i o one) w → IsSafe Any one w
one_safe n i o one w h s = safe_begins Any one _ w (subst (λ t. IsSafe Any t w) (opened n i o one h) s)

pub none_left : (n i o : ℕ) (one : Access ℕ) → n ≤ i → children (n - i) i o one ≡ done o
unfolding children
none_left n i o one h = let z : n - i ≡ 0 = omega arith in ap (λ m. children m i o one) z

-- the same of a program that stayed
pub ends_in : (p p' : Program) (k : Kind) (n : ℕ) (ms : List ℕ) (w w' : World) (q : ℕ) → p' ≡ p → ((left : ℕ) → counted (nest p' k n ms) w left ≡ ended q w' left) → (left : ℕ) → counted (nest p k n ms) w left ≡ ended q w' left
ends_in p p' k n ms w w' q e h = subst (λ x. (left : ℕ) → counted (nest x k n ms) w left ≡ ended q w' left) e h

pub tells_in : {M : Type 0} (follows : M → Trace → List Touch → Type 0) (m m' : M) (p p' : Program) (k : Kind) (n : ℕ) (ms : List ℕ) (w : World) → p' ≡ p →
    ((h : Trace) (ts : List Touch) → follows m h ts → follows m' h (touched (nest p' k n ms) w ts)) → (h : Trace) (ts : List Touch) → follows m h ts → follows m' h (touched (nest p k n ms) w ts)
tells_in follows m m' p p' k n ms w e h = subst (λ x. (q : Trace) (ts : List Touch) → follows m q ts → follows m' q (touched (nest x k n ms) w ts)) e h

-- what is left of the row touches no more than the arrays
pub nested_touches : (p : Program) (k : Kind) (s : Entries) (vs : List Value) (ns : List ℕ) (n : ℕ) (ms : List ℕ) (w w' : World) (o : ℕ) → ns ≡ n ∷ ms → ((left : ℕ) → counted (nest p k n ms) w left ≡ ended o w' left) →
    (ts : List Touch) → touched (nested p k s vs ns) w ts ≡ touched (nest p k n ms) w ts
nested_touches p k s vs ns n ms w w' o e h ts =
    ap (λ x. touched (nested p k s vs x) w ts) e ∙ touched_bind (nest p k n ms) (λ q. goes_on p s (Obj q ∷ vs)) w 0 o w' 0 (h 0) ts
