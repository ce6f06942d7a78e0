-- Reads and writes of values that are kept as tags and bits.
use Rattle.std.proofs.Common.{◌≡◌, ℕ, zero, suc, ◌<◌, ◌≤◌, ◌+◌, List, [], ◌∷◌, ◌++◌, length, get_or, set, replicate, refl, ap, arith, sym, subst, ◌∙◌, ◌-◌, length-set, ◌^◌, true, false}
use Rattle.std.proofs.lemmas.List.{length-append, length-replicate, get_or_default}
use Rattle.jvm_model.specs.RowsMoves.{is_long}
use Rattle.std.specs.Int.{w32, w64, cast_signed}
use Rattle.jvm_model.specs.declared.values.{Value.Value, Value.TheVariants.Int, Value.TheVariants.Long, Value.TheVariants.Null}
use Rattle.vm_frames.specs.declared.slots.Tag.{Tag}
use Rattle.vm_frames.specs.declared.slots.Tag.TheVariants.{OfInt, OfLong, OfNull, OfLit, OfObj}
use Rattle.vm_frames.specs.Slots.{value_of, values, Fit, AreFit, IsInt, IsLong}

pub length_values : (ts : List Tag) (bs : List ℕ) → length ts ≤ length bs → length (values ts bs) ≡ length ts
length_values [] bs h = refl
length_values (t ∷ ts) [] h = absurd (omega arith)
length_values (t ∷ ts) (b ∷ bs) h = let rest : length ts ≤ length bs = omega arith in rw (length_values ts bs rest) refl

pub values_set : (ts : List Tag) (bs : List ℕ) (i : ℕ) (t : Tag) (b : ℕ) → length ts ≤ length bs → values (set ts i t) (set bs i b) ≡ set (values ts bs) i (value_of t b)
values_set [] bs i t b h = refl
values_set (x ∷ ts) [] i t b h = absurd (omega arith)
values_set (x ∷ ts) (y ∷ bs) zero t b h = refl
values_set (x ∷ ts) (y ∷ bs) (suc i) t b h = ap (λ (vs : List Value). value_of x y ∷ vs) (values_set ts bs i t b (omega arith))

pub values_get : (ts : List Tag) (bs : List ℕ) (i : ℕ) (t : Tag) (b : ℕ) → length ts ≤ length bs → i < length ts → get_or (values ts bs) i Null ≡ value_of (get_or ts i t) (get_or bs i b)
values_get [] bs i t b h k = absurd (omega arith)
values_get (x ∷ ts) [] i t b h k = absurd (omega arith)
values_get (x ∷ ts) (y ∷ bs) zero t b h k = refl
values_get (x ∷ ts) (y ∷ bs) (suc i) t b h k = values_get ts bs i t b (omega arith) (omega arith)

pub fit_set : (ts : List Tag) (bs : List ℕ) (i : ℕ) (t : Tag) (b : ℕ) → AreFit ts bs → Fit t b → AreFit (set ts i t) (set bs i b)
fit_set [] bs i t b a f = tt
fit_set (x ∷ ts) [] zero t b a f = tt
fit_set (x ∷ ts) [] (suc i) t b a f = tt
fit_set (x ∷ ts) (y ∷ bs) zero t b a f = (f, a.1)
fit_set (x ∷ ts) (y ∷ bs) (suc i) t b a f = (a.0, fit_set ts bs i t b a.1 f)

pub fit_get : (ts : List Tag) (bs : List ℕ) (i : ℕ) (t : Tag) (b : ℕ) → AreFit ts bs → length ts ≤ length bs → i < length ts → Fit (get_or ts i t) (get_or bs i b)
fit_get [] bs i t b a h k = absurd (omega arith)
fit_get (x ∷ ts) [] i t b a h k = absurd (omega arith)
fit_get (x ∷ ts) (y ∷ bs) zero t b a h k = a.0
fit_get (x ∷ ts) (y ∷ bs) (suc i) t b a h k = fit_get ts bs i t b a.1 (omega arith) (omega arith)

-- more bits than tags show nothing
pub values_more : (ts : List Tag) (bs cs : List ℕ) → length ts ≤ length bs → values ts (bs ++ cs) ≡ values ts bs
values_more [] bs cs h = refl
values_more (t ∷ ts) [] cs h = absurd (omega arith)
values_more (t ∷ ts) (b ∷ bs) cs h = ap (λ (vs : List Value). value_of t b ∷ vs) (values_more ts bs cs (omega arith))

pub fit_more : (ts : List Tag) (bs cs : List ℕ) → length ts ≤ length bs → AreFit ts bs → AreFit ts (bs ++ cs)
fit_more [] bs cs h a = tt
fit_more (t ∷ ts) [] cs h a = absurd (omega arith)
fit_more (t ∷ ts) (b ∷ bs) cs h a = (a.0, fit_more ts bs cs (omega arith) a.1)

nulls : (n : ℕ) (bs : List ℕ) → n ≤ length bs → values (replicate n OfNull) bs ≡ replicate n Null
nulls zero bs h = refl
nulls (suc n) [] h = absurd (omega arith)
nulls (suc n) (b ∷ bs) h = ap (λ (vs : List Value). Null ∷ vs) (nulls n bs (omega arith))

fit_nulls : (n : ℕ) (bs : List ℕ) → AreFit (replicate n OfNull) bs
fit_nulls zero bs = tt
fit_nulls (suc n) [] = tt
fit_nulls (suc n) (b ∷ bs) = (tt, fit_nulls n bs)

-- more tags of null show nulls
pub values_nulls : (ts : List Tag) (n : ℕ) (bs : List ℕ) → length ts + n ≤ length bs → values (ts ++ replicate n OfNull) bs ≡ values ts bs ++ replicate n Null
values_nulls [] n bs h = nulls n bs (omega arith)
values_nulls (t ∷ ts) n [] h = absurd (omega arith)
values_nulls (t ∷ ts) n (b ∷ bs) h = ap (λ (vs : List Value). value_of t b ∷ vs) (values_nulls ts n bs (omega arith))

pub fit_grown : (ts : List Tag) (n : ℕ) (bs : List ℕ) → AreFit ts bs → AreFit (ts ++ replicate n OfNull) bs
fit_grown [] n bs a = fit_nulls n bs
fit_grown (t ∷ ts) n [] a = tt
fit_grown (t ∷ ts) n (b ∷ bs) a = (a.0, fit_grown ts n bs a.1)

-- what is read at a place
pub value_read : (ts : List Tag) (bs : List ℕ) (s : List Value) (i : ℕ) (t u : Tag) (b : ℕ) → values ts bs ≡ s → length ts ≤ length bs × AreFit ts bs → i < length s
    → t ≡ get_or ts i t → b ≡ get_or bs i b → t ≡ u → value_of u b ≡ get_or s i Null
value_read ts bs s i t u b e w h p q r =
    let long : i < length (values ts bs) = subst (λ (x : List Value). i < length x) (sym e) h in
    let there : i < length ts = omega (arith, long, length_values ts bs w.0) in
    let read : get_or (values ts bs) i Null ≡ value_of (get_or ts i t) (get_or bs i b) = values_get ts bs i t b w.0 there in
    ap (λ (x : Tag). value_of x b) (sym r ∙ p) ∙ (ap (value_of (get_or ts i t)) q ∙ (sym read ∙ ap (λ (x : List Value). get_or x i Null) e))

pub fit_read : (ts : List Tag) (bs : List ℕ) (s : List Value) (i : ℕ) (t u : Tag) (b : ℕ) → values ts bs ≡ s → length ts ≤ length bs × AreFit ts bs → i < length s
    → t ≡ get_or ts i t → b ≡ get_or bs i b → t ≡ u → Fit u b
fit_read ts bs s i t u b e w h p q r =
    let long : i < length (values ts bs) = subst (λ (x : List Value). i < length x) (sym e) h in
    let there : i < length ts = omega (arith, long, length_values ts bs w.0) in
    let fit : Fit (get_or ts i t) (get_or bs i b) = fit_get ts bs i t b w.1 w.0 there in
    subst (λ (x : Tag). Fit x b) (sym p ∙ r) (subst (λ (x : ℕ). Fit (get_or ts i t) x) (sym q) fit)

-- the bits of an int and of a long
fit_of_int : (t : Tag) (b : ℕ) → IsInt (value_of t b) → Fit t b → b < 2 ^ 32
fit_of_int OfInt b h f = f
fit_of_int OfLong b h f = absurd h
fit_of_int OfNull b h f = absurd h
fit_of_int OfLit b h f = absurd h
fit_of_int OfObj b h f = absurd h

int_value : (t : Tag) (b : ℕ) → IsInt (value_of t b) → value_of t b ≡ Int (cast_signed w32 b)
int_value OfInt b h = refl
int_value OfLong b h = absurd h
int_value OfNull b h = absurd h
int_value OfLit b h = absurd h
int_value OfObj b h = absurd h

long_value : (t : Tag) (b : ℕ) → IsLong (value_of t b) → value_of t b ≡ Long (cast_signed w64 b)
long_value OfInt b h = absurd h
long_value OfLong b h = refl
long_value OfNull b h = absurd h
long_value OfLit b h = absurd h
long_value OfObj b h = absurd h

-- the value at a place whose bits are read alone
value_here : (ts : List Tag) (bs : List ℕ) (s : List Value) (i b : ℕ) → values ts bs ≡ s → length ts ≤ length bs × AreFit ts bs → i < length s → b ≡ get_or bs i b → get_or s i Null ≡ value_of (get_or ts i OfNull) b
value_here ts bs s i b e w h q =
    let long : i < length (values ts bs) = subst (λ (x : List Value). i < length x) (sym e) h in
    let there : i < length ts = omega (arith, long, length_values ts bs w.0) in
    ap (λ (x : List Value). get_or x i Null) (sym e) ∙ (values_get ts bs i OfNull b w.0 there ∙ ap (value_of (get_or ts i OfNull)) (sym q))

pub int_read : (ts : List Tag) (bs : List ℕ) (s : List Value) (i b : ℕ) → values ts bs ≡ s → length ts ≤ length bs × AreFit ts bs → i < length s → b ≡ get_or bs i b → IsInt (get_or s i Null)
    → get_or s i Null ≡ Int (cast_signed w32 b)
int_read ts bs s i b e w h q k =
    let here : get_or s i Null ≡ value_of (get_or ts i OfNull) b = value_here ts bs s i b e w h q in
    here ∙ int_value (get_or ts i OfNull) b (subst IsInt here k)

pub int_fits : (ts : List Tag) (bs : List ℕ) (s : List Value) (i b : ℕ) → values ts bs ≡ s → length ts ≤ length bs × AreFit ts bs → i < length s → b ≡ get_or bs i b → IsInt (get_or s i Null) → b < 2 ^ 32
int_fits ts bs s i b e w h q k =
    let here : get_or s i Null ≡ value_of (get_or ts i OfNull) b = value_here ts bs s i b e w h q in
    let long : i < length (values ts bs) = subst (λ (x : List Value). i < length x) (sym e) h in
    let there : i < length ts = omega (arith, long, length_values ts bs w.0) in
    let fit : Fit (get_or ts i OfNull) (get_or bs i b) = fit_get ts bs i OfNull b w.1 w.0 there in
    fit_of_int (get_or ts i OfNull) b (subst IsInt here k) (subst (λ (x : ℕ). Fit (get_or ts i OfNull) x) (sym q) fit)

pub long_read : (ts : List Tag) (bs : List ℕ) (s : List Value) (i b : ℕ) → values ts bs ≡ s → length ts ≤ length bs × AreFit ts bs → i < length s → b ≡ get_or bs i b → IsLong (get_or s i Null)
    → get_or s i Null ≡ Long (cast_signed w64 b)
long_read ts bs s i b e w h q k =
    let here : get_or s i Null ≡ value_of (get_or ts i OfNull) b = value_here ts bs s i b e w h q in
    here ∙ long_value (get_or ts i OfNull) b (subst IsLong here k)

-- whether a value is a long
other_tag : (t : Tag) (b : ℕ) → (t ≡ OfLong → ⊥) → is_long (value_of t b) ≡ false
other_tag OfInt b h = refl
other_tag OfLong b h = absurd (h refl)
other_tag OfNull b h = refl
other_tag OfLit b h = refl
other_tag OfObj b h = refl

tag_read : (ts : List Tag) (bs : List ℕ) (s : List Value) (i : ℕ) (t u : Tag) → values ts bs ≡ s → length ts ≤ length bs × AreFit ts bs → i < length s → t ≡ get_or ts i t → t ≡ u
    → value_of u (get_or bs i 0) ≡ get_or s i Null
tag_read ts bs s i t u e w h p r =
    let long : i < length (values ts bs) = subst (λ (x : List Value). i < length x) (sym e) h in
    let there : i < length bs = omega (arith, w.0, long, length_values ts bs w.0) in
    value_read ts bs s i t u (get_or bs i 0) e w h p (get_or_default bs i 0 (get_or bs i 0) there) r

pub is_long_read : (ts : List Tag) (bs : List ℕ) (s : List Value) (i : ℕ) (t : Tag) → values ts bs ≡ s → length ts ≤ length bs × AreFit ts bs → i < length s → t ≡ get_or ts i t → t ≡ OfLong
    → true ≡ is_long (get_or s i Null)
is_long_read ts bs s i t e w h p r = ap is_long (tag_read ts bs s i t OfLong e w h p r)

pub not_long_read : (ts : List Tag) (bs : List ℕ) (s : List Value) (i : ℕ) (t : Tag) → values ts bs ≡ s → length ts ≤ length bs × AreFit ts bs → i < length s → t ≡ get_or ts i t → (t ≡ OfLong → ⊥)
    → false ≡ is_long (get_or s i Null)
not_long_read ts bs s i t e w h p r = sym (other_tag t (get_or bs i 0) r) ∙ ap is_long (tag_read ts bs s i t t e w h p refl)

-- a write keeps the form
pub form_set : (ts : List Tag) (bs : List ℕ) (i : ℕ) (t : Tag) (b : ℕ) → length ts ≤ length bs × AreFit ts bs → Fit t b → length (set ts i t) ≤ length (set bs i b) × AreFit (set ts i t) (set bs i b)
form_set ts bs i t b w f = (omega (arith, w.0, length-set ts i t, length-set bs i b), fit_set ts bs i t b w.1 f)

-- places are added
pub form_more : (ts : List Tag) (bs cs : List ℕ) → length ts ≤ length bs × AreFit ts bs → length ts ≤ length (bs ++ cs) × AreFit ts (bs ++ cs)
form_more ts bs cs w = (omega (arith, w.0, length-append bs cs), fit_more ts bs cs w.0 w.1)

long_enough : (ts : List Tag) (bs : List ℕ) (wanted : ℕ) → length ts ≤ length bs → length ts + (wanted - length ts) ≤ length (bs ++ replicate (wanted - length bs) 0)
long_enough ts bs wanted h =
    omega (arith, h, length-append bs (replicate (wanted - length bs) 0), length-replicate {A = ℕ} (wanted - length bs) 0)

pub form_grown : (ts : List Tag) (bs : List ℕ) (wanted : ℕ) → length ts ≤ length bs × AreFit ts bs
    → length (ts ++ replicate (wanted - length ts) OfNull) ≤ length (bs ++ replicate (wanted - length bs) 0) × AreFit (ts ++ replicate (wanted - length ts) OfNull) (bs ++ replicate (wanted - length bs) 0)
form_grown ts bs wanted w = (
  omega (arith, long_enough ts bs wanted w.0, length-append ts (replicate (wanted - length ts) OfNull), length-replicate {A = Tag} (wanted - length ts) OfNull),
  fit_grown ts (wanted - length ts) (bs ++ replicate (wanted - length bs) 0) (fit_more ts bs (replicate (wanted - length bs) 0) w.0 w.1),
)

pub values_grown : (ts : List Tag) (bs : List ℕ) (s : List Value) (wanted : ℕ) → values ts bs ≡ s → length ts ≤ length bs
    → values (ts ++ replicate (wanted - length ts) OfNull) (bs ++ replicate (wanted - length bs) 0) ≡ s ++ replicate (wanted - length s) Null
values_grown ts bs s wanted e w =
    let count : length ts ≡ length s = sym (length_values ts bs w) ∙ ap length e in
    values_nulls ts (wanted - length ts) (bs ++ replicate (wanted - length bs) 0) (long_enough ts bs wanted w)
    ∙ (ap (λ (x : List Value). x ++ replicate (wanted - length ts) Null) (values_more ts bs (replicate (wanted - length bs) 0) w ∙ e)
    ∙ ap (λ (n : ℕ). s ++ replicate (wanted - n) Null) count)

pub ruleset kept = (length_values, values_set, values_get, fit_set, fit_get)
