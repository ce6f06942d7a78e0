-- How many locations a program of accesses touches, set against what it costs, and which statics and states are among them.
use Rattle.std.proofs.Common.{◌≡◌, ◌⊎◌, ℕ, ℤ, suc, ◌+◌, ◌-◌, ◌*◌, ◌^◌, ◌≤◌, List, [], ◌∷◌, ◌++◌, length, Bool, true, false, cond, Option, Some, None, All, refl, sym, ◌∙◌, ap, subst, arith, inl, inr}
use Rattle.std.proofs.lemmas.List.{length-append, Elements.All-nil, Elements.All-cons, Elements.All-append}
use Rattle.jvm_model.specs.declared.{values.Value.Value, values.Kind.Kind, values.Location.Location, values.Touch.Touch, library.Native.Native}
use Rattle.jvm_model.specs.declared.values.Value.TheVariants as value
use Rattle.jvm_model.specs.declared.values.Location.TheVariants as place
use Rattle.jvm_model.specs.{declared.outcome.Next.Next, declared.program.Program.Program, Builtin.null_pointer_exception, Entries.Entries}
use Rattle.jvm_model.specs.declared.outcome.Next.TheVariants.{Go, Fault, Enter}
use Rattle.jvm_model.specs.World.{World, Object, Content, size, at, put, make_object}
use Rattle.jvm_model.specs.Access.{Access, done, read, write, make, spend, bind, run, read_of, write_of, fields_made, elems_made, text_made, made}
use Rattle.jvm_model.specs.Classes.{method_at, is_private, is_static, layout, literal_at}
use Rattle.jvm_model.specs.Rows.{Answer, answer, stuck_row, popping, on_int, on_long, on_object, on_reference, with_kind, on_text, constant_kind}
use Rattle.jvm_model.proofs.Locations.{at_put_other}
use Rattle.check_sound.specs.PaceLaw.{WriteOf, Writes, MeetsOf, Meets}

-- which statics may be written, which statics may be read, and the states of which classes may be either
pub record Limits : Type 1 where
  pub puts : ℕ → Type 0
  pub gets : ℕ → Type 0
  pub states : ℕ → Type 0

abbrev pub MayWrite : Limits → Location → Type 0
MayWrite M l = MeetsOf M.puts M.states l

abbrev pub MayRead : Limits → Location → Type 0
MayRead M l = MeetsOf M.gets M.states l

abbrev pub MayTouch : Limits → Location → Type 0
MayTouch M l = MeetsOf (λ f. M.gets f ⊎ M.puts f) M.states l

-- what making an object writes
abbrev pub text_cells : Option (List ℕ) → ℕ
text_cells None = 0
text_cells (Some t) = 1

abbrev pub cells : Object → ℕ
cells x = suc (length x.fields + (length x.elems + text_cells x.text))

-- Each path ends well, where c is four times what it cost, with what was there at first, and d what it touched; and it reads and
-- writes no other statics and states than M allows.
pub data Paced (M : Limits) {A : Type 0} (G : ℕ → ℕ → A → Type 0) : ℕ → ℕ → Access A → Type 0 where
  paced_done : {c d : ℕ} {a : A} → G c d a → Paced M G c d (done a)
  paced_read : {c d : ℕ} {l : Location} {k : Content l → Access A} → MayRead M l → ((x : Content l) → Paced M G c (suc d) (k x)) → Paced M G c d (read l k)
  paced_write : {c d : ℕ} {l : Location} {x : Content l} {t : Access A} → MayWrite M l → Paced M G c (suc d) t → Paced M G c d (write l x t)
  paced_make : {c d : ℕ} {x : Object} {k : ℕ → Access A} → ((o : ℕ) → Paced M G c (d + cells x) (k o)) → Paced M G c d (make x k)
  paced_spend : {c d n : ℕ} {t : Access A} → Paced M G (c + 4 * n) d t → Paced M G c d (spend n t)

-- ends that say less
pub paced_map : {M : Limits} {A : Type 0} {G H : ℕ → ℕ → A → Type 0} → ((c d : ℕ) (a : A) → G c d a → H c d a) → (t : Access A) (c d : ℕ) → Paced M G c d t → Paced M H c d t
paced_map f (done a) c d (paced_done h) = paced_done (f c d a h)
paced_map f (read l k) c d (paced_read m h) = paced_read m (λ x. paced_map f (k x) c (suc d) (h x))
paced_map f (write l x t) c d (paced_write m h) = paced_write m (paced_map f t c (suc d) h)
paced_map f (make x k) c d (paced_make h) = paced_make (λ o. paced_map f (k o) c (d + cells x) (h o))
paced_map f (spend n t) c d (paced_spend h) = paced_spend (paced_map f t (c + 4 * n) d h)

-- either way
pub either : {M : Limits} {A : Type 0} {G : ℕ → ℕ → A → Type 0} {c d : ℕ} (b : Bool) {t u : Access A} → Paced M G c d t → Paced M G c d u → Paced M G c d (cond b t u)
either true f g = f
either false f g = g

-- No more touches than that; where B, the cost may also be the greatest 64-bit number.
abbrev pub Bounded : Type 0 → ℕ → ℕ → Type 0
Bounded B c d = (d ≤ c) ⊎ (B × (4 * (2 ^ 64 - 1) ≤ c))

moved : {B : Type 0} {c d x y : ℕ} → c ≡ x → d ≡ y → Bounded B c d → Bounded B x y
moved e f (inl h) = inl (omega arith)
moved e f (inr h) = let k = h.1 in inr (h.0, omega arith)

-- ---- what a run of a paced program touches and writes

fields_counted : (o : ℕ) (xs : List (ℕ × Value)) → length (fields_made o xs) ≡ length xs
fields_counted o [] = refl
fields_counted o (x ∷ xs) = ap suc (fields_counted o xs)

elems_counted : (o i : ℕ) (xs : List Value) → length (elems_made o i xs) ≡ length xs
elems_counted o i [] = refl
elems_counted o i (x ∷ xs) = ap suc (elems_counted o (suc i) xs)

text_counted : (o : ℕ) (t : Option (List ℕ)) → length (text_made o t) ≡ text_cells t
text_counted o None = refl
text_counted o (Some t) = refl

made_counted : (o : ℕ) (x : Object) → length (made o x) ≡ cells x
made_counted o x =
    let a = fields_counted o x.fields in
    let b = elems_counted o 0 x.elems in
    let c = text_counted o x.text in
    let d = length-append (elems_made o 0 x.elems) (text_made o x.text) in
    let e = length-append (fields_made o x.fields) (elems_made o 0 x.elems ++ text_made o x.text) in
    omega arith

-- a write of a location that may be written
allowed : (M : Limits) (l : Location) → MayWrite M l → WriteOf M.puts (write_of l)
allowed M l m f e = subst (MayWrite M) (ap (λ (y : Touch). y.location) e) m

-- what may be read may be touched, and so may what may be written
from_read : (M : Limits) (l : Location) → MayRead M l → MayTouch M l
from_read M (place.Static f) m = inl m
from_read M _ m = m

from_write : (M : Limits) (l : Location) → MayWrite M l → MayTouch M l
from_write M (place.Static f) m = inr m
from_write M _ m = m

-- the touch is allowed
abbrev pub TouchOf : Limits → Touch → Type 0
TouchOf M t = MayTouch M t.location

-- The touches of a run are of Q, where those of what may be read and of what may be written are: making an object touches no
-- static and no state.
module _ (M : Limits) (Q : Touch → Type 0) (reads : (l : Location) (c : Content l) → MayRead M l → Q (read_of l c)) (writes : (l : Location) → MayWrite M l → Q (write_of l)) where
  fields_all : (o : ℕ) (xs : List (ℕ × Value)) → All Q (fields_made o xs)
  fields_all o [] = All-nil Q
  fields_all o (x ∷ xs) = All-cons Q (write_of (place.Field o x.0)) (fields_made o xs) (writes (place.Field o x.0) tt) (fields_all o xs)

  elems_all : (o i : ℕ) (xs : List Value) → All Q (elems_made o i xs)
  elems_all o i [] = All-nil Q
  elems_all o i (x ∷ xs) = All-cons Q (write_of (place.Elem o i)) (elems_made o (suc i) xs) (writes (place.Elem o i) tt) (elems_all o (suc i) xs)

  text_all : (o : ℕ) (t : Option (List ℕ)) → All Q (text_made o t)
  text_all o None = All-nil Q
  text_all o (Some t) = All-cons Q (write_of (place.Text o)) [] (writes (place.Text o) tt) (All-nil Q)

  made_all : (o : ℕ) (x : Object) → All Q (made o x)
  made_all o x = All-cons Q (write_of (place.Head o)) _ (writes (place.Head o) tt)
      (All-append Q (fields_made o x.fields) _ (fields_all o x.fields) (All-append Q (elems_made o 0 x.elems) (text_made o x.text) (elems_all o 0 x.elems) (text_all o x.text)))

  paced_all : {A : Type 0} (G : ℕ → ℕ → A → Type 0) (t : Access A) (w : World) (c d : ℕ) → Paced M G c d t → All Q (run t w).touches
  paced_all G (done a) w c d (paced_done h) = All-nil Q
  paced_all G (read l k) w c d (paced_read m h) = All-cons Q (read_of l (at w l)) _ (reads l (at w l) m) (paced_all G (k (at w l)) w c (suc d) (h (at w l)))
  paced_all G (write l x t) w c d (paced_write m h) = All-cons Q (write_of l) _ (writes l m) (paced_all G t (put w l x) c (suc d) h)
  paced_all G (make x k) w c d (paced_make h) = All-append Q (made (size w) x) _ (made_all (size w) x) (paced_all G (k (size w)) (make_object w x) c (d + cells x) (h (size w)))
  paced_all G (spend n t) w c d (paced_spend h) = paced_all G t w (c + 4 * n) d h

module _ (M : Limits) {A : Type 0} (G : ℕ → ℕ → A → Type 0) where
  -- the touches and four times the units of a run
  pub paced_touches : {B : Type 0} → ((c d : ℕ) (a : A) → G c d a → Bounded B c d) → (t : Access A) (w : World) (c d : ℕ) → Paced M G c d t → Bounded B (4 * (run t w).units + c) (length (run t w).touches + d)
  paced_touches g (done a) w c d (paced_done h) = moved (omega arith) (omega arith) (g c d a h)
  paced_touches g (read l k) w c d (paced_read m h) = moved refl (omega arith) (paced_touches g (k (at w l)) w c (suc d) (h (at w l)))
  paced_touches g (write l x t) w c d (paced_write m h) = moved refl (omega arith) (paced_touches g t (put w l x) c (suc d) h)
  paced_touches g (make x k) w c d (paced_make h) =
      let e = made_counted (size w) x in
      let a = length-append (made (size w) x) (run (k (size w)) (make_object w x)).touches in
      moved refl (omega arith) (paced_touches g (k (size w)) (make_object w x) c (d + cells x) (h (size w)))
  paced_touches g (spend n t) w c d (paced_spend h) = moved (omega arith) refl (paced_touches g t w (c + 4 * n) d h)

  -- each write of a static is allowed
  pub paced_writes : (t : Access A) (w : World) (c d : ℕ) → Paced M G c d t → Writes M.puts (run t w).touches
  paced_writes t w c d h = paced_all M (WriteOf M.puts) (λ l x m f e. absurd (let z : false ≡ true = ap (λ (y : Touch). y.write) e in cc)) (λ l m. allowed M l m) G t w c d h

  -- each touch of a static and of a state is allowed
  pub paced_touched : (t : Access A) (w : World) (c d : ℕ) → Paced M G c d t → Meets (λ f. M.gets f ⊎ M.puts f) M.states (run t w).touches
  paced_touched t w c d h = paced_all M (TouchOf M) (λ l x m. from_read M l m) (λ l m. from_write M l m) G t w c d h

  static_put : (w : World) (f : ℕ) (l : Location) (x : Content l) → (M.puts f → ⊥) → MayWrite M l → at (put w l x) (place.Static f) ≡ at w (place.Static f)
  static_put w f (place.Static g) x n m = at_put_other w (place.Static g) (place.Static f) x (λ e. n (subst (MayWrite M) (sym e) m))
  static_put w f _ x n m = refl

  -- a static that may not be written stays as it was
  pub paced_statics : (f : ℕ) → (M.puts f → ⊥) → (t : Access A) (w : World) (c d : ℕ) → Paced M G c d t → at (run t w).world (place.Static f) ≡ at w (place.Static f)
  paced_statics f n (done a) w c d (paced_done h) = refl
  paced_statics f n (read l k) w c d (paced_read m h) = paced_statics f n (k (at w l)) w c (suc d) (h (at w l))
  paced_statics f n (write l x t) w c d (paced_write m h) = paced_statics f n t (put w l x) c (suc d) h ∙ static_put w f l x n m
  paced_statics f n (make x k) w c d (paced_make h) = paced_statics f n (k (size w)) (make_object w x) c (d + cells x) (h (size w))
  paced_statics f n (spend u t) w c d (paced_spend h) = paced_statics f n t w (c + 4 * u) d h

  -- parts put together
  pub paced_bind : {B : Type 0} (H : ℕ → ℕ → B → Type 0) (t : Access A) (k : A → Access B) (c d : ℕ) → Paced M G c d t → ((c d : ℕ) (a : A) → G c d a → Paced M H c d (k a)) → Paced M H c d (bind t k)
  paced_bind H (done a) k c d (paced_done h) r = r c d a h
  paced_bind H (read l n) k c d (paced_read m h) r = paced_read m (λ x. paced_bind H (n x) k c (suc d) (h x) r)
  paced_bind H (write l x t) k c d (paced_write m h) r = paced_write m (paced_bind H t k c (suc d) h r)
  paced_bind H (make x n) k c d (paced_make h) r = paced_make (λ o. paced_bind H (n o) k c (d + cells x) (h o) r)
  paced_bind H (spend n t) k c d (paced_spend h) r = paced_spend (paced_bind H t k (c + 4 * n) d h r)

-- ---- how a row ends

-- the class has at most one instance field, as the throwables that steps throw by themselves
abbrev pub IsLight : Program → ℕ → Type 0
IsLight p c = length (layout p c) ≤ 1

-- What is left for a built-in method: four touches, or three where it is no static method, or a private one.
abbrev pub LeavesFor : Program → ℕ → ℕ → ℕ → Option Native → Type 0
LeavesFor p c d m None = Unit {0}
LeavesFor p c d m (Some x) = (d + 4 ≤ c) ⊎ ((d + 3 ≤ c) × ((is_private (method_at p m).flags ≡ true) ⊎ (is_static (method_at p m).flags ≡ false)))

abbrev pub PaysBy : Program → ℕ → ℕ → Next → Type 0
PaysBy p c d (Fault e) = IsLight p e
PaysBy p c d (Enter m) = LeavesFor p c d m (method_at p m).native
PaysBy p c d _ = Unit {0}

abbrev pub Pays : Program → {S : Type 0} → ℕ → ℕ → Answer S → Type 0
Pays p c d (answer x s) = (d ≤ c) × PaysBy p c d x
Pays p c d stuck_row = d ≤ c

abbrev pub PacedRow : Program → Limits → {S : Type 0} → ℕ → ℕ → Access (Answer S) → Type 0
PacedRow p M c d t = Paced M (λ c d a. Pays p c d a) c d t

-- a row whose cost may be the greatest number, where B, if it goes on
abbrev pub Cut : Program → Type 0 → {S : Type 0} → ℕ → ℕ → Answer S → Type 0
Cut p B c d (answer Go s) = Bounded B c d
Cut p B c d a = Pays p c d a

pub pays_cut : (p : Program) (B : Type 0) {S : Type 0} (c d : ℕ) (a : Answer S) → Pays p c d a → Cut p B c d a
pays_cut p B c d (answer Go s) h = inl h.0
pays_cut p B c d _ h = h

abbrev pub CutRow : Program → Limits → Type 0 → Access (Answer Entries) → Type 0
CutRow p M B t = Paced M (λ c d a. Cut p B c d a) 4 0 t

-- ---- the combinators of rows, where a light null pointer exception is thrown

module _ (p : Program) (light : IsLight p null_pointer_exception) {M : Limits} {S : Type 0} {c d : ℕ} (e : d ≤ c) where
  pub popping-paced : (vs : List Value) {k : Value → List Value → Access (Answer S)} → ((v : Value) (ws : List Value) → PacedRow p M c d (k v ws)) → PacedRow p M c d (popping vs k)
  popping-paced [] r = paced_done e
  popping-paced (v ∷ vs) r = r v vs

  pub on_int-paced : (v : Value) {k : ℤ → Access (Answer S)} → ((n : ℤ) → PacedRow p M c d (k n)) → PacedRow p M c d (on_int v k)
  on_int-paced (value.Int n) r = r n
  on_int-paced _ r = paced_done e

  pub on_long-paced : (v : Value) {k : ℤ → Access (Answer S)} → ((n : ℤ) → PacedRow p M c d (k n)) → PacedRow p M c d (on_long v k)
  on_long-paced (value.Long n) r = r n
  on_long-paced _ r = paced_done e

  pub on_object-paced : (s : S) (v : Value) {k : ℕ → Access (Answer S)} → ((o : ℕ) → PacedRow p M c d (k o)) → PacedRow p M c d (on_object s v k)
  on_object-paced s value.Null r = paced_done (e, light)
  on_object-paced s (value.Obj o) r = r o
  on_object-paced s _ r = paced_done e

  pub on_reference-paced : (s : S) (v : Value) {k : Access (Answer S)} → PacedRow p M c d k → PacedRow p M c d (on_reference s v k)
  on_reference-paced s value.Null r = paced_done (e, light)
  on_reference-paced s (value.Lit n) r = r
  on_reference-paced s (value.Obj o) r = r
  on_reference-paced s _ r = paced_done e

  -- one touch where a head is read, none of a constant
  pub with_kind-paced : (v : Value) {k : Kind → Access (Answer S)} → ((x : Kind) → PacedRow p M c d (k x)) → ((x : Kind) → PacedRow p M c (suc d) (k x)) → PacedRow p M c d (with_kind v k)
  with_kind-paced (value.Lit n) r q = r (constant_kind n)
  with_kind-paced (value.Obj o) r q = paced_read tt (λ h. q h.kind)
  with_kind-paced _ r q = paced_done e

  -- one touch where a text is read, none of a constant
  pub on_text-paced : (s : S) (v : Value) {k : List ℕ → Access (Answer S)} → ((t : List ℕ) → PacedRow p M c d (k t)) → ((t : List ℕ) → PacedRow p M c (suc d) (k t)) → PacedRow p M c d (on_text p s v k)
  on_text-paced s value.Null r q = paced_done (e, light)
  on_text-paced s (value.Lit n) r q = r (literal_at p n)
  on_text-paced s (value.Obj o) r q = paced_read tt q
  on_text-paced s _ r q = paced_done e
