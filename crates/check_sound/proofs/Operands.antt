-- Operands of which the topmost meet some needs, and one lemma for each combinator of the rows.
use Rattle.std.proofs.Common.{◌≡◌, ℕ, ℤ, suc, ◌<◌, ◌≤◌, List, [], ◌∷◌, length, drop, Bool, true, false, ◌&&◌, cond, refl, sym, ap, subst, arith}
use Rattle.std.proofs.lemmas.Bool.{and_parts}
use Rattle.jvm_model.specs.declared.{values.Value.Value, values.Kind.Kind, values.Head.Head, outcome.Next.TheVariants.Fault, program.Program.Program}
use Rattle.jvm_model.specs.declared.values.Value.TheVariants as value
use Rattle.jvm_model.specs.declared.values.Location.TheVariants as place
use Rattle.jvm_model.specs.{World.World, World.size, Access.Access, Access.read, Builtin.null_pointer_exception, Classes.literal_at}
use Rattle.jvm_model.specs.Linked.{Linked, IsKind}
use Rattle.jvm_model.specs.Rows.{Answer, answer, popping, on_int, on_long, on_object, on_reference, with_kind, on_text, constant_kind}
use Rattle.type_frames.specs.{declared.vtype.VType.VType, declared.stack_effect.OperandConstraint.OperandConstraint, Environment.Environment}
use Rattle.type_frames.specs.declared.vtype.VType.TheVariants.{Top, Int, Long}
use Rattle.type_frames.specs.declared.stack_effect.OperandConstraint.TheVariants.{Fits, Half}
use Rattle.type_frames.specs.{Rules.meets, Rules.meet_all, TypedState.kind_at, TypedState.IsInstance, TypedState.RefersTo, TypedState.HaveStackTypes}
use Rattle.check_sound.proofs.{Tree.head_at, Tree.Tree, Tree.typed_done, Tree.typed_read, Held.Is, Held.Held, Held.IsShort, Held.is_fits}

-- The needs that are still to be met, the types that are still there, what is left of them in the end, and the operands.
pub record Operands (p : Program) (w : World) (e : Environment) (ns : List OperandConstraint) (ts rest : List VType) (vs : List Value) : Type 0 where
  pub enough : length ns ≤ length ts
  pub met : meet_all p ns ts ≡ true
  pub left : drop (length ns) ts ≡ rest
  pub held : Held p w e ts vs

-- a need of a value of one place
abbrev pub IsPop : OperandConstraint → Type 0
IsPop Half = ⊥
IsPop (Fits Top) = ⊥
IsPop (Fits Long) = ⊥
IsPop _ = Unit {0}

-- the operands that are left, once all needs are met
pub rest_of : {p : Program} {w : World} {e : Environment} {ts rest : List VType} {vs : List Value} → Operands p w e [] ts rest vs → Held p w e rest vs
rest_of {p = p} {w = w} {e = e} {vs = vs} o = subst (λ (ts : List VType). Held p w e ts vs) o.left o.held

-- the top operand, of one place
pub record Popped (p : Program) (w : World) (e : Environment) (ns : List OperandConstraint) (n : OperandConstraint) (ts rest : List VType) (v : Value) (vs : List Value) : Type 0 where
  pub type : VType
  pub below : List VType
  pub seen : ts ≡ type ∷ below
  pub is : Is p w e type v
  pub met : meets p n type ≡ true
  pub short : IsShort v
  pub operands : Operands p w e ns below rest vs

module _ (p : Program) (w : World) (e : Environment) where
  no_top : (n : OperandConstraint) → IsPop n → meets p n Top ≡ true → ⊥
  no_top Half i m = i
  no_top (Fits Top) i m = i
  no_top (Fits Long) i m = i
  no_top _ i m = cc

  pub none_there : (n : OperandConstraint) (ns : List OperandConstraint) (ts rest : List VType) → Operands p w e (n ∷ ns) ts rest [] → ⊥
  none_there n ns [] rest o = let q : suc (length ns) ≤ 0 = o.enough in omega arith
  none_there n ns (t ∷ ts) rest o = let q : t ∷ ts ≡ [] = o.held.types in absurd (cc)

  not_long : (t : VType) (n : OperandConstraint) (ts : List VType) (i : ℤ) (vs : List Value) → IsPop n → meets p n t ≡ true → HaveStackTypes p w e (t ∷ ts) (value.Long i ∷ vs) → ⊥
  not_long Top n ts i vs q m h = no_top n q m
  not_long _ n ts i vs q m h = h

  one_popped : (n : OperandConstraint) (ns : List OperandConstraint) (t : VType) (ts rest : List VType) (v : Value) (vs : List Value) → IsShort v → Is p w e t v → Held p w e ts vs → Operands p w e (n ∷ ns) (t ∷ ts) rest (v ∷ vs) → Popped p w e ns n (t ∷ ts) rest v vs
  one_popped n ns t ts rest v vs s i h o =
      let q : suc (length ns) ≤ suc (length ts) = o.enough in
      let m = and_parts _ _ o.met in
      record { type = t; below = ts; seen = refl; is = i; met = m.0; short = s; operands = record { enough = omega arith; met = m.1; left = o.left; held = h } }

  pub popped : (n : OperandConstraint) (ns : List OperandConstraint) (ts rest : List VType) (v : Value) (vs : List Value) → IsPop n → Operands p w e (n ∷ ns) ts rest (v ∷ vs) → Popped p w e ns n ts rest v vs
  popped n ns (t ∷ ts) rest (value.Long a) vs i o = absurd (not_long t n ts a vs i (and_parts _ _ o.met).0 o.held.types)
  popped n ns (t ∷ ts) rest v vs i o = one_popped n ns t ts rest v vs tt (record { type = o.held.types.0; range = o.held.range.0 }) (record { types = o.held.types.1; range = o.held.range.1 }) o
  popped n ns [] rest v vs i o = absurd (let q : suc (length ns) ≤ 0 = o.enough in omega arith)

  lower : (u : VType) (us : List VType) (vs : List Value) → meets p (Fits Long) u ≡ true → HaveStackTypes p w e (u ∷ us) vs → ⊥
  lower Long us [] m h = let q : Long ∷ us ≡ [] = h in absurd (cc)
  lower Long us (value.Long a ∷ vs) m h = h
  lower Long us (_ ∷ vs) m h = h.0
  lower _ us vs m h = cc

  is_long_type : (u : VType) → meets p (Fits Long) u ≡ true → u ≡ Long
  is_long_type Long m = refl
  is_long_type _ m = absurd (cc)

  -- a long on top, which takes two places
  pub record LongPopped (ns : List OperandConstraint) (ts rest : List VType) (v : Value) (vs : List Value) : Type 0 where
    pub below : List VType
    pub seen : ts ≡ Top ∷ Long ∷ below
    pub is : Is p w e Long v
    pub operands : Operands p w e ns below rest vs

  pub long_popped : (ns : List OperandConstraint) (ts rest : List VType) (v : Value) (vs : List Value) → Operands p w e (Half ∷ Fits Long ∷ ns) ts rest (v ∷ vs) → LongPopped ns ts rest v vs
  long_popped ns (Top ∷ u ∷ ts) rest (value.Long a) vs o =
      let q : suc (suc (length ns)) ≤ suc (suc (length ts)) = o.enough in
      record {
        below = ts;
        seen = ap {B = List VType} (λ x. Top ∷ x ∷ ts) (is_long_type u (and_parts (meets p (Fits Long) u) (meet_all p ns ts) (and_parts (meets p Half Top) (meets p (Fits Long) u && meet_all p ns ts) o.met).1).0);
        is = record { type = tt; range = tt };
        operands = record { enough = omega arith; met = (and_parts (meets p (Fits Long) u) (meet_all p ns ts) (and_parts (meets p Half Top) (meets p (Fits Long) u && meet_all p ns ts) o.met).1).1; left = o.left; held = record { types = o.held.types.1; range = o.held.range.1 } };
      }
  long_popped ns (t ∷ u ∷ ts) rest (value.Long a) vs o = absurd o.held.types
  long_popped ns (t ∷ u ∷ ts) rest _ vs o = absurd (lower u ts vs (and_parts (meets p (Fits Long) u) (meet_all p ns ts) (and_parts (meets p Half t) (meets p (Fits Long) u && meet_all p ns ts) o.met).1).0 o.held.types.1)
  long_popped ns (t ∷ []) rest v vs o = absurd (let q : suc (suc (length ns)) ≤ 1 = o.enough in omega arith)
  long_popped ns [] rest v vs o = absurd (let q : suc (suc (length ns)) ≤ 0 = o.enough in omega arith)

-- a reference, and one that isn't null
abbrev pub IsNullable : Value → Type 0
IsNullable (value.Int n) = ⊥
IsNullable (value.Long n) = ⊥
IsNullable v = Unit {0}

abbrev pub IsNonNull : Value → Type 0
IsNonNull (value.Lit n) = Unit {0}
IsNonNull (value.Obj o) = Unit {0}
IsNonNull v = ⊥

-- what a nonnull reference is an instance of
abbrev pub IsKindOf : Program → World → Value → Kind → Type 0
IsKindOf p w (value.Lit n) x = x ≡ constant_kind n
IsKindOf p w (value.Obj o) x = (x ≡ kind_at w o) × IsKind p x
IsKindOf p w v x = ⊥

pub refers_nullable : (p : Program) (w : World) (a : List ℕ) (v : Value) → RefersTo p w a v → IsNullable v
refers_nullable p w a (value.Int n) h = h
refers_nullable p w a (value.Long n) h = h
refers_nullable p w a _ h = tt

-- what comes after an operand, for answers of any sort
module _ (p : Program) {S : Type 0} (P : World → Answer S → Type 0) (w : World) where
  -- an operand of one place, and the types with it on top
  pub popping-seen : {e : Environment} (n : OperandConstraint) {ns : List OperandConstraint} {ts rest : List VType} {vs : List Value} {k : Value → List Value → Access (Answer S)} → IsPop n → Operands p w e (n ∷ ns) ts rest vs
      → ((v : Value) (ws : List Value) (t : VType) (us : List VType) → ts ≡ t ∷ us → Is p w e t v → IsShort v → meets p n t ≡ true → Operands p w e ns us rest ws → Tree p P w (k v ws)) → Tree p P w (popping vs k)
  popping-seen {e = e} n {ns = ns} {ts = ts} {rest = rest} {vs = []} i o r = absurd (none_there p w e n ns ts rest o)
  popping-seen {e = e} n {ns = ns} {ts = ts} {rest = rest} {vs = v ∷ ws} i o r = let x = popped p w e n ns ts rest v ws i o in r v ws x.type x.below x.seen x.is x.short x.met x.operands

  pub popping-long-seen : {e : Environment} {ns : List OperandConstraint} {ts rest : List VType} {vs : List Value} {k : Value → List Value → Access (Answer S)} → Operands p w e (Half ∷ Fits Long ∷ ns) ts rest vs
      → ((v : Value) (ws : List Value) (us : List VType) → ts ≡ Top ∷ Long ∷ us → Is p w e Long v → Operands p w e ns us rest ws → Tree p P w (k v ws)) → Tree p P w (popping vs k)
  popping-long-seen {e = e} {ns = ns} {ts = ts} {rest = rest} {vs = []} o r = absurd (none_there p w e Half (Fits Long ∷ ns) ts rest o)
  popping-long-seen {e = e} {ns = ns} {ts = ts} {rest = rest} {vs = v ∷ ws} o r = let x = long_popped p w e ns ts rest v ws o in r v ws x.below x.seen x.is x.operands

  -- an operand of one place
  pub popping-typed : {e : Environment} (n : OperandConstraint) {ns : List OperandConstraint} {ts rest : List VType} {vs : List Value} {k : Value → List Value → Access (Answer S)} → IsPop n → Operands p w e (n ∷ ns) ts rest vs
      → ((v : Value) (ws : List Value) (t : VType) (us : List VType) → Is p w e t v → IsShort v → meets p n t ≡ true → Operands p w e ns us rest ws → Tree p P w (k v ws)) → Tree p P w (popping vs k)
  popping-typed {e = e} n {ns = ns} {ts = ts} {rest = rest} {vs = []} i o r = absurd (none_there p w e n ns ts rest o)
  popping-typed {e = e} n {ns = ns} {ts = ts} {rest = rest} {vs = v ∷ ws} i o r = let x = popped p w e n ns ts rest v ws i o in r v ws x.type x.below x.is x.short x.met x.operands

  -- an operand that fits a type of one place
  pub popping-fits : (lk : Linked p) {e : Environment} (u : VType) {ns : List OperandConstraint} {ts rest : List VType} {vs : List Value} {k : Value → List Value → Access (Answer S)} → IsPop (Fits u) → Operands p w e (Fits u ∷ ns) ts rest vs
      → ((v : Value) (ws : List Value) (us : List VType) → Is p w e u v → IsShort v → Operands p w e ns us rest ws → Tree p P w (k v ws)) → Tree p P w (popping vs k)
  popping-fits lk {e = e} u i o r = popping-typed (Fits u) i o (λ v ws t us x s m q. r v ws us (is_fits p lk w e t u v m x) s q)

  -- a long
  pub popping-long : {e : Environment} {ns : List OperandConstraint} {ts rest : List VType} {vs : List Value} {k : Value → List Value → Access (Answer S)} → Operands p w e (Half ∷ Fits Long ∷ ns) ts rest vs
      → ((v : Value) (ws : List Value) (us : List VType) → Is p w e Long v → Operands p w e ns us rest ws → Tree p P w (k v ws)) → Tree p P w (popping vs k)
  popping-long {e = e} {ns = ns} {ts = ts} {rest = rest} {vs = []} o r = absurd (none_there p w e Half (Fits Long ∷ ns) ts rest o)
  popping-long {e = e} {ns = ns} {ts = ts} {rest = rest} {vs = v ∷ ws} o r = let x = long_popped p w e ns ts rest v ws o in r v ws x.below x.is x.operands

  pub on_int-typed : {e : Environment} (v : Value) {k : ℤ → Access (Answer S)} → Is p w e Int v → ((n : ℤ) → Tree p P w (k n)) → Tree p P w (on_int v k)
  on_int-typed (value.Int n) h r = r n
  on_int-typed _ h r = absurd h.type

  pub on_long-typed : {e : Environment} (v : Value) {k : ℤ → Access (Answer S)} → Is p w e Long v → ((n : ℤ) → Tree p P w (k n)) → Tree p P w (on_long v k)
  on_long-typed (value.Long n) h r = r n
  on_long-typed _ h r = absurd h.type

  -- an object of a type that no constant has; null throws
  pub on_object-typed : (s : S) (a : List ℕ) (v : Value) {k : ℕ → Access (Answer S)} → RefersTo p w a v → ((n : ℕ) → IsInstance p (constant_kind n) a → ⊥) → P w (answer (Fault null_pointer_exception) s)
      → ((o : ℕ) → o < size w → IsInstance p (kind_at w o) a → Tree p P w (k o)) → Tree p P w (on_object s v k)
  on_object-typed s a value.Null h c f r = typed_done f
  on_object-typed s a (value.Lit n) h c f r = absurd (c n h.1)
  on_object-typed s a (value.Obj o) h c f r = r o h.0 h.1
  on_object-typed s a _ h c f r = absurd h

  -- a reference; null throws
  pub on_reference-typed : (s : S) (v : Value) {k : Access (Answer S)} → IsNullable v → P w (answer (Fault null_pointer_exception) s) → (IsNonNull v → Tree p P w k) → Tree p P w (on_reference s v k)
  on_reference-typed s value.Null h f r = typed_done f
  on_reference-typed s (value.Lit n) h f r = r tt
  on_reference-typed s (value.Obj o) h f r = r tt
  on_reference-typed s _ h f r = absurd h

  -- the head of an object
  pub head-typed : (o : ℕ) {k : Head → Access (Answer S)} → o < size w → (IsKind p (kind_at w o) → Tree p P w (k (head_at w o))) → Tree p P w (read (place.Head o) k)
  head-typed o {k = k} h r = typed_read h (λ c f. subst (λ (z : Head). Tree p P w (k z)) (sym f.0) (r (subst (λ (z : Head). IsKind p z.kind) f.0 f.1)))

  pub with_kind-typed : (a : List ℕ) (v : Value) {k : Kind → Access (Answer S)} → IsNonNull v → RefersTo p w a v → ((x : Kind) → IsInstance p x a → IsKindOf p w v x → Tree p P w (k x)) → Tree p P w (with_kind v k)
  with_kind-typed a (value.Lit n) i h r = r (constant_kind n) h.1 refl
  with_kind-typed a (value.Obj o) i h r = head-typed o h.0 (λ q. r (kind_at w o) h.1 (refl, q))
  with_kind-typed a _ i h r = absurd i

  pub on_text-typed : (s : S) (a : List ℕ) (v : Value) {k : List ℕ → Access (Answer S)} → RefersTo p w a v → P w (answer (Fault null_pointer_exception) s) → ((t : List ℕ) → Tree p P w (k t)) → Tree p P w (on_text p s v k)
  on_text-typed s a value.Null h f r = typed_done f
  on_text-typed s a (value.Lit n) h f r = r (literal_at p n)
  on_text-typed s a (value.Obj o) h f r = typed_read h.0 (λ t q. r t)
  on_text-typed s a _ h f r = absurd h

  pub choose-typed : (b : Bool) {t u : Access (Answer S)} → (b ≡ true → Tree p P w t) → (b ≡ false → Tree p P w u) → Tree p P w (cond b t u)
  choose-typed true f g = f refl
  choose-typed false f g = g refl
