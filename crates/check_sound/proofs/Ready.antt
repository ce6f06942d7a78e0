-- Entries that a typed state may have, how a row may end over them, and what a row starts from: the top frame at its
-- instruction with all rules kept.
use Rattle.std.proofs.Common.{◌≡◌, ℕ, suc, ◌+◌, ◌<◌, ◌≤◌, List, [], ◌∷◌, ◌++◌, length, drop, Bool, true, false, cond, nat_eq, Option, Some, None, IfSome, slice_get, refl, sym, ◌∙◌, ap, subst, arith, inl, inr, All}
use Rattle.std.specs.Prelude.{flat_map, reverse}
use Rattle.std.specs.List.{list_any, list_all, IsDistinct}
use Rattle.std.proofs.lemmas.{Bool.and_parts, Bool.leb-true, Bool.or_cases, Bool.eqb-true, List.Elements.All-nil, List.Elements.All-cons}
use Rattle.jvm_model.specs.declared.values.{Value.Value, InitState.TheVariants.Running}
use Rattle.jvm_model.specs.declared.values.Value.TheVariants as value
use Rattle.jvm_model.specs.declared.values.Location.TheVariants as place
use Rattle.jvm_model.specs.declared.state.{EntryKind.EntryKind, EntryKind.TheVariants.Absent, EntryKind.TheVariants.InMethod, EntryKind.TheVariants.InClass}
use Rattle.jvm_model.specs.declared.{library.Native.Native, outcome.Next.Next, instr.Instr.Instr}
use Rattle.jvm_model.specs.declared.outcome.Next.TheVariants.{Fault, Raise, Enter}
use Rattle.jvm_model.specs.declared.outcome.Next.TheVariants as next
use Rattle.jvm_model.specs.declared.program.{Program.Program, Body.Body, Placed.Placed, MethodRec.MethodRec}
use Rattle.jvm_model.specs.{World.World, World.at, Access.Access, Builtin.throwable_class, Descriptors.parameters, Descriptors.return_type}
use Rattle.jvm_model.specs.Classes.{method_at, is_below, is_static, form_at, next_place}
use Rattle.jvm_model.specs.Entries.{Entry, Entries, all_entries, entry_limit, no_entries, with_stack, with_place}
use Rattle.jvm_model.specs.Linked.{IsPlace, IsForm, NamesForm, NamesBody, IsFormKind, IsBodyKind, IsFormFound}
use Rattle.jvm_model.specs.Rows.{Answer, answer, stuck_row, goes_on, goes_to}
use Rattle.jvm_model.proofs.Ranges.{all_there}
use Rattle.type_frames.specs.declared.vtype.{VType.VType, VType.TheVariants.Int, VType.TheVariants.Long, VType.TheVariants.Object, Frame.Frame}
use Rattle.type_frames.specs.declared.stack_effect.StackEffect.{StackEffect}
use Rattle.type_frames.specs.{Frames.Slots, Given.given_frames, Descriptors.types_of, Descriptors.name_of, StackEffect.sides, Typing.before, Typing.IsTyped}
use Rattle.type_frames.specs.Environment.{Environment, environment_of, is_target, leads}
use Rattle.type_frames.specs.Rules.{after, fits_at, all_read, can_set}
use Rattle.type_frames.specs.TypedState.{IsInRange, RefersTo, Stands, Goes, Waits, IsPushedBy, IsTop, IsBelow, AllBelow, called_by, class_begun, values_of, IsThrowable}
use Rattle.check_sound.proofs.{Tree.Tree, Tree.typed_done, Tree.Over, Grow.Ranged, Held.Locals, Held.Held, Operands.Operands}
use Rattle.check_sound.proofs.Arrive.{Kept, has_number, kept_at, is_body, form_here, arrived_at, arrived_next, placed_at, leads_target}

-- ---- entries

-- the entries of a typed state
pub record TypedEntries (p : Program) (w : World) (raised : Option Value) (s : Entries) : Type 0 where
  pub references : All (IsInRange p w) (flat_map values_of (all_entries s))
  pub few : length (all_entries s) ≤ entry_limit
  pub alone : s.top.kind ≡ Absent → s ≡ no_entries
  pub top : IsTop p w raised s.top.kind s.top
  pub below : AllBelow p w s.top s.below
  pub one_each : IsDistinct nat_eq (flat_map class_begun (all_entries s))

-- what the entries below one know of it
abbrev pub stub : EntryKind → ℕ → Entry
stub k n = record { kind = k; number = n; pc = 0; stack = []; locals = [] }

abbrev pub AllRanged : Program → World → List Entry → Type 0
AllRanged p w [] = Unit {0}
AllRanged p w (f ∷ fs) = Ranged p w f.stack × Ranged p w f.locals × AllRanged p w fs

-- the entries below one of this kind and number, which stands
pub record Rest (p : Program) (w : World) (k : EntryKind) (n : ℕ) (fs : List Entry) : Type 0 where
  pub each : AllBelow p w (stub k n) fs
  pub range : AllRanged p w fs
  pub few : length fs < entry_limit
  pub apart : IsDistinct nat_eq (class_begun (stub k n) ++ flat_map class_begun fs)

pub below_same : (p : Program) (w : World) (a b : Entry) → a.number ≡ b.number → a.kind ≡ b.kind → (fs : List Entry) → AllBelow p w a fs → AllBelow p w b fs
below_same p w a b e k [] h = tt
below_same p w a b e k (f ∷ fs) h = (subst (λ (j : EntryKind). IsBelow p w f f.kind b j) k (by f.kind a.kind h.0), h.1)
  where
    by : (i j : EntryKind) → IsBelow p w f i a j → IsBelow p w f i b j
    by InMethod InMethod h = subst (λ (n : ℕ). Waits p w n f) e h
    by InMethod (InClass x) h = h
    by InMethod Absent h = absurd h
    by (InClass false) (InClass x) h = (h.0, subst (λ (n : ℕ). IsPushedBy p f (InClass false) (stub (InClass x) n) (InClass x)) e h.1)
    by (InClass true) InMethod h = (h.0, subst (λ (n : ℕ). IsPushedBy p f (InClass true) (stub InMethod n) InMethod) e h.1)
    by Absent j h = absurd h
    by _ _ h = absurd h.1

-- ranges in one list and by entries
module _ (p : Program) (w : World) where
  all_ranged : (vs : List Value) → Ranged p w vs → All (IsInRange p w) vs
  all_ranged [] h = All-nil (IsInRange p w)
  all_ranged (v ∷ vs) h = All-cons (IsInRange p w) v vs h.0 (all_ranged vs h.1)

  ranged_all : (vs : List Value) → All (IsInRange p w) vs → Ranged p w vs
  ranged_all [] h = tt
  ranged_all (v ∷ vs) h = (h 0 v (omega arith), ranged_all vs (λ k d g. h (suc k) d (omega arith)))

  pub ranged_append : (vs us : List Value) → Ranged p w vs → Ranged p w us → Ranged p w (vs ++ us)
  ranged_append [] us h g = g
  ranged_append (v ∷ vs) us h g = (h.0, ranged_append vs us h.1 g)

  ranged_parts : (vs us : List Value) → Ranged p w (vs ++ us) → Ranged p w vs × Ranged p w us
  ranged_parts [] us h = (tt, h)
  ranged_parts (v ∷ vs) us h = let q = ranged_parts vs us h.1 in ((h.0, q.0), q.1)

  whole_range : (fs : List Entry) → AllRanged p w fs → Ranged p w (flat_map values_of fs)
  whole_range [] h = tt
  whole_range (f ∷ fs) h = ranged_append (f.stack ++ f.locals) (flat_map values_of fs) (ranged_append f.stack f.locals h.0 h.1) (whole_range fs h.2)

  parts_range : (fs : List Entry) → Ranged p w (flat_map values_of fs) → AllRanged p w fs
  parts_range [] h = tt
  parts_range (f ∷ fs) h =
      let q = ranged_parts (f.stack ++ f.locals) (flat_map values_of fs) h in
      let r = ranged_parts f.stack f.locals q.0 in
      (r.0, r.1, parts_range fs q.1)

-- an entry that stands
abbrev pub IsEntry : EntryKind → Type 0
IsEntry Absent = ⊥
IsEntry k = Unit {0}

-- a top entry over the rest
pub closed : {p : Program} {w : World} {fs : List Entry} (raised : Option Value) (e : Entry) → IsEntry e.kind → IsTop p w raised e.kind e → Ranged p w e.stack → Ranged p w e.locals → Rest p w e.kind e.number fs → TypedEntries p w raised (record { top = e; below = fs })
closed {p = p} {w = w} {fs = fs} raised e i t vs ls r = by e.kind refl i
  where
    stood : e.kind ≡ Absent → ⊥
    stood z = subst (λ (k : EntryKind). IsEntry k) z i

    by : (k : EntryKind) → e.kind ≡ k → IsEntry k → TypedEntries p w raised (record { top = e; below = fs })
    by Absent q i = absurd i
    by _ q i = record {
      references = subst (λ (es : List Entry). All (IsInRange p w) (flat_map values_of es)) (sym (ap (λ (k : EntryKind). elim k as (λ x. List Entry) [ Absent ↦ fs | InMethod ↦ e ∷ fs | InClass b ↦ e ∷ fs ]) q)) (all_ranged p w (flat_map values_of (e ∷ fs)) (whole_range p w (e ∷ fs) (vs, ls, r.range)));
      few = subst (λ (es : List Entry). length es ≤ entry_limit) (sym (ap (λ (k : EntryKind). elim k as (λ x. List Entry) [ Absent ↦ fs | InMethod ↦ e ∷ fs | InClass b ↦ e ∷ fs ]) q)) (let f = r.few in omega arith);
      alone = λ z. absurd (stood z);
      top = t;
      below = below_same p w (stub e.kind e.number) e refl refl fs r.each;
      one_each = subst (λ (es : List Entry). IsDistinct nat_eq (flat_map class_begun es)) (sym (ap (λ (k : EntryKind). elim k as (λ x. List Entry) [ Absent ↦ fs | InMethod ↦ e ∷ fs | InClass b ↦ e ∷ fs ]) q)) r.apart;
    }

-- the rest under a top entry that stands
pub record Opened (p : Program) (w : World) (e : Entry) (fs : List Entry) : Type 0 where
  pub stack : Ranged p w e.stack
  pub locals : Ranged p w e.locals
  pub rest : Rest p w e.kind e.number fs

pub opened : {p : Program} {w : World} (raised : Option Value) (s : Entries) → IsEntry s.top.kind → TypedEntries p w raised s → Opened p w s.top s.below
opened {p = p} {w = w} raised s i t =
    let q = whole s.top.kind refl i in
    let r = parts_range p w (s.top ∷ s.below) (ranged_all p w (flat_map values_of (s.top ∷ s.below)) (subst (λ (es : List Entry). All (IsInRange p w) (flat_map values_of es)) q t.references)) in
    record {
      stack = r.0;
      locals = r.1;
      rest = record {
        each = below_same p w s.top (stub s.top.kind s.top.number) refl refl s.below t.below;
        range = r.2;
        few = (let f = subst (λ (es : List Entry). length es ≤ entry_limit) q t.few in omega arith);
        apart = subst (λ (es : List Entry). IsDistinct nat_eq (flat_map class_begun es)) q t.one_each;
      };
    }
  where
    whole : (k : EntryKind) → s.top.kind ≡ k → IsEntry k → all_entries s ≡ s.top ∷ s.below
    whole Absent q i = absurd i
    whole _ q i = ap (λ (k : EntryKind). elim k as (λ x. List Entry) [ Absent ↦ s.below | InMethod ↦ s.top ∷ s.below | InClass b ↦ s.top ∷ s.below ]) q

-- which throwable is raised makes no difference
pub any_raised : (p : Program) (w : World) (a b : Value) (s : Entries) → TypedEntries p w (Some a) s → TypedEntries p w (Some b) s
any_raised p w a b s t = record { references = t.references; few = t.few; alone = t.alone; top = by s.top.kind t.top; below = t.below; one_each = t.one_each }
  where
    by : (k : EntryKind) → IsTop p w (Some a) k s.top → IsTop p w (Some b) k s.top
    by Absent h = h
    by _ h = h

-- ---- a world that goes on

-- there are the same objects, and maybe more; and no class stops being initialised
pub record Grows (u w : World) : Type 0 where
  pub over : Over u w
  pub running : (c : ℕ) → at u (place.Init c) ≡ Running → at w (place.Init c) ≡ Running

-- ---- how a row may end

-- a built-in class of throwables
abbrev pub IsThrown : Program → ℕ → Type 0
IsThrown p c = (c < length p.classes) × (is_below p c throwable_class ≡ true)

-- the value has a type that a descriptor may name
abbrev pub HasPlain : Program → World → VType → Value → Type 0
HasPlain p w Int (value.Int n) = Unit {0}
HasPlain p w Long (value.Long n) = Unit {0}
HasPlain p w (Object a) v = RefersTo p w a v
HasPlain p w t v = ⊥

-- operands of these types, the top one first, a long as one, over others
abbrev pub Takes : Program → World → List VType → List Value → List Value → Type 0
Takes p w [] vs rest = vs ≡ rest
Takes p w (t ∷ ts) [] rest = ⊥
Takes p w (t ∷ ts) (v ∷ vs) rest = HasPlain p w t v × IsInRange p w v × Takes p w ts vs rest

-- one of the type of a result, or none, over others
abbrev pub Gives : Program → World → List VType → List Value → List Value → Type 0
Gives p w [] vs rest = vs ≡ rest
Gives p w (t ∷ []) (v ∷ vs) rest = HasPlain p w t v × IsInRange p w v × (vs ≡ rest)
Gives p w ts vs rest = ⊥

-- the types of a method's operands, the last argument first and the receiver last
abbrev pub operand_types : Program → MethodRec → List VType
operand_types p m = reverse (cond (is_static m.flags) [] (Object (name_of p m.class) ∷ []) ++ flat_map types_of (parameters m.descriptor))

abbrev pub gone_on : Program → Entries → List Value → Entries
gone_on p s vs = with_place (with_stack s vs) (next_place p s.top.number s.top.pc)

-- a built-in method m is called over these entries
pub record NativeCall (p : Program) (w : World) (m : ℕ) (s : Entries) : Type 0 where
  pub rest : List Value
  pub takes : Takes p w (operand_types p (method_at p m)) s.top.stack rest
  pub range : Ranged p w s.top.stack
  -- there is room for the operands, and for the result over what is left of them
  pub space : (b : Body) × ((method_at p s.top.number).body ≡ Some b) × (length rest + length (types_of (return_type (method_at p m).descriptor)) ≤ b.max_stack) × (length s.top.stack ≤ b.max_stack)
  pub answered : (v : World) → Grows w v → (vs : List Value) → Gives p v (types_of (return_type (method_at p m).descriptor)) vs rest → TypedEntries p v None (gone_on p s vs)
  pub faulted : (v : World) → Grows w v → (vs : List Value) → Ranged p v vs → TypedEntries p v (Some value.Null) (with_stack s vs)

abbrev pub Enters : Program → World → ℕ → Option Native → Entries → Type 0
Enters p w m None s = TypedEntries p w None s
Enters p w m (Some x) s = NativeCall p w m s

abbrev pub EndsBy : Program → World → Next → Entries → Type 0
EndsBy p w (Fault c) s = IsThrown p c × TypedEntries p w (Some value.Null) s
EndsBy p w (Raise v) s = IsThrowable p w v × TypedEntries p w (Some v) s
EndsBy p w (Enter m) s = Enters p w m (method_at p m).native s
EndsBy p w next.Over s = ⊥
EndsBy p w _ s = TypedEntries p w None s

-- how a row may end that enters no method
abbrev pub QuietBy : Program → World → Next → Entries → Type 0
QuietBy p w (Fault c) s = IsThrown p c × TypedEntries p w (Some value.Null) s
QuietBy p w (Raise v) s = IsThrowable p w v × TypedEntries p w (Some v) s
QuietBy p w (Enter m) s = ⊥
QuietBy p w next.Over s = ⊥
QuietBy p w _ s = TypedEntries p w None s

abbrev pub Quiet : Program → World → Answer Entries → Type 0
Quiet p w (answer x s) = QuietBy p w x s
Quiet p w stuck_row = ⊥

-- how a row may end
abbrev pub Ends : Program → World → Answer Entries → Type 0
Ends p w (answer x s) = EndsBy p w x s
Ends p w stuck_row = ⊥

-- a row's typed tree
abbrev pub Row : Program → World → Access (Answer Entries) → Type 0
Row p w t = Tree p (Ends p) w t

-- what all of a list pass, one of it passes
pub any_all : (n : ℕ) (ks : List ℕ) (f : ℕ → Bool) → list_any (λ m. nat_eq m n) ks ≡ true → list_all f ks ≡ true → f n ≡ true
any_all n [] f l h = absurd (cc)
any_all n (k ∷ ks) f l h = elim (or_cases (nat_eq k n) (list_any (λ m. nat_eq m n) ks) l) [
  | inl q ↦ subst (λ (x : ℕ). f x ≡ true) (eqb-true k n q) (and_parts _ _ h).0
  | inr q ↦ any_all n ks f q (and_parts _ _ h).1
]

-- ---- what a row starts from

-- The top entry is a frame at this instruction: with the frame of types before it, all rules kept, its locals and operands
-- of these types, and the entries below.
pub record Ready (p : Program) (w : World) (s : Entries) (i : Instr) : Type 0 where
  pub body : Body
  pub given : List Frame
  pub index : ℕ
  pub types : Slots
  pub fits : length types.stack ≤ body.max_stack
  pub has_code : (method_at p s.top.number).body ≡ Some body
  pub has_frames : given_frames p (method_at p s.top.number) ≡ Some given
  pub there : slice_get body.code index ≡ Some (record { pc = s.top.pc; form = i })
  pub known : before p (environment_of p (method_at p s.top.number) body given) index s.top.pc ≡ Some types
  pub kept : Kept p (environment_of p (method_at p s.top.number) body given) index (record { pc = s.top.pc; form = i }) types (sides p (environment_of p (method_at p s.top.number) body given) s.top.pc types i)
  pub kind : s.top.kind ≡ InMethod
  pub locals : Locals p w (environment_of p (method_at p s.top.number) body given) types.locals s.top.locals
  pub stack : Held p w (environment_of p (method_at p s.top.number) body given) types.stack s.top.stack
  pub rest : Rest p w InMethod s.top.number s.below

abbrev pub here : {p : Program} {w : World} {s : Entries} {i : Instr} → Ready p w s i → Environment
here {p} {w} {s} {i} r = environment_of p (method_at p s.top.number) r.body r.given

abbrev pub sides_at : {p : Program} {w : World} {s : Entries} {i : Instr} → Ready p w s i → StackEffect
sides_at {p} {w} {s} {i} r = sides p (here r) s.top.pc r.types i

-- the frame after the instruction
abbrev pub then : {p : Program} {w : World} {s : Entries} {i : Instr} → Ready p w s i → Slots
then r = after r.types (sides_at r)

-- the types below what the instruction takes
abbrev pub rest : {p : Program} {w : World} {s : Entries} {i : Instr} → Ready p w s i → List VType
rest r = drop (length (sides_at r).takes) r.types.stack

-- the operands that the instruction takes
pub operands : {p : Program} {w : World} {s : Entries} {i : Instr} (r : Ready p w s i) → Operands p w (here r) (sides_at r).takes r.types.stack (rest r) s.top.stack
operands r = record { enough = leb-true _ _ (and_parts _ _ r.kept.one).0; met = r.kept.two; left = refl; held = r.stack }

-- the locals that the instruction reads and sets
pub reads_kept : {p : Program} {w : World} {s : Entries} {i : Instr} (r : Ready p w s i) → all_read p r.body.max_locals r.types.locals (sides_at r).reads ≡ true
reads_kept {p = p} r = (and_parts (all_read p r.body.max_locals r.types.locals (sides_at r).reads) (can_set r.body.max_locals (sides_at r).sets) r.kept.three).0

pub sets_kept : {p : Program} {w : World} {s : Entries} {i : Instr} (r : Ready p w s i) → can_set r.body.max_locals (sides_at r).sets ≡ true
sets_kept {p = p} r = (and_parts (all_read p r.body.max_locals r.types.locals (sides_at r).reads) (can_set r.body.max_locals (sides_at r).sets) r.kept.three).1

module _ (p : Program) (ty : IsTyped p) where
  -- a frame that goes on is ready, at the instruction of its place
  pub ready : {w : World} (s : Entries) → s.top.kind ≡ InMethod → TypedEntries p w None s → (i : Instr) × (form_at p s.top.number s.top.pc ≡ Some i) × Ready p w s i
  ready {w = w} s k t =
      let o = opened None s (subst (λ (x : EntryKind). IsEntry x) (sym k) tt) t in
      let g : Goes p w s.top = subst (λ (x : EntryKind). IsTop p w None x s.top) k t.top in
      let st = g.stands in
      let e = environment_of p (method_at p s.top.number) st.body st.given in
      let x : Placed = record { pc = s.top.pc; form = st.instruction.form } in
      let th : slice_get st.body.code st.index ≡ Some x = st.there ∙ ap {B = Option Placed} (λ q. Some (record { pc = q; form = st.instruction.form })) st.place in (
        st.instruction.form,
        form_here p ty s.top.number st.body st.given st.has_code st.has_frames st.index x th,
        record {
          body = st.body;
          given = st.given;
          index = st.index;
          types = st.types;
          fits = st.fits;
          has_code = st.has_code;
          has_frames = st.has_frames;
          there = th;
          known = st.known;
          kept = kept_at p ty s.top.number st.body st.given st.has_code st.has_frames st.index x st.types th st.known;
          kind = k;
          locals = record { types = st.locals; range = o.locals };
          stack = record { types = g.operands; range = o.stack };
          rest = subst (λ (x : EntryKind). Rest p w x s.top.number s.below) k o.rest;
        },
      )

module _ (p : Program) (ty : IsTyped p) {w : World} {s : Entries} {i : Instr} (r : Ready p w s i) where
  -- entries with another top frame of the same method over the same rest
  pub frame : (raised : Option Value) (pc : ℕ) (vs ls : List Value) → IsTop p w raised InMethod (record { kind = InMethod; number = s.top.number; pc = pc; stack = vs; locals = ls }) → Ranged p w vs → Ranged p w ls
      → TypedEntries p w raised (record { top = record { kind = s.top.kind; number = s.top.number; pc = pc; stack = vs; locals = ls }; below = s.below })
  frame raised pc vs ls t v l = subst (λ (k : EntryKind). TypedEntries p w raised (record { top = record { kind = k; number = s.top.number; pc = pc; stack = vs; locals = ls }; below = s.below })) (sym r.kind)
      (closed raised (record { kind = InMethod; number = s.top.number; pc = pc; stack = vs; locals = ls }) tt t v l r.rest)

  -- the frame goes on at the next instruction, with these locals and operands
  pub next_typed : {ls vs : List Value} → (sides_at r).falls ≡ true → Locals p w (here r) (then r).locals ls → Held p w (here r) (then r).stack vs
      → TypedEntries p w None (record { top = record { kind = s.top.kind; number = s.top.number; pc = next_place p s.top.number s.top.pc; stack = vs; locals = ls }; below = s.below })
  next_typed {ls = ls} {vs = vs} fl hl hv = frame None (next_place p s.top.number s.top.pc) vs ls
      (arrived_next p ty s.top.number r.body r.given r.has_code r.has_frames w r.index (record { pc = s.top.pc; form = i }) r.types ls vs r.there r.known fl hl hv) hv.range hl.range

  pub on : {vs : List Value} → (sides_at r).falls ≡ true → Locals p w (here r) (then r).locals s.top.locals → Held p w (here r) (then r).stack vs → Row p w (goes_on p s vs)
  on fl hl hv = typed_done (next_typed fl hl hv)

  pub is_form : IsForm r.body i
  is_form = all_there (λ x. IsForm r.body x.form) r.body.code r.index (record { pc = s.top.pc; form = i }) (is_body p ty s.top.number r.body r.given r.has_code r.has_frames).forms r.there

  -- what the program says of the instruction: the numbers in it, their kinds, and what the look-up finds
  pub names_form : NamesForm p i
  names_form = all_there (λ x. NamesForm p x.form) r.body.code r.index (record { pc = s.top.pc; form = i }) (subst (λ (o : Option Body). IfSome o (λ b. NamesBody p b)) r.has_code (ty.linked.numbers.bodies s.top.number (has_number p s.top.number r.body r.has_code))).forms r.there

  pub form_kind : IsFormKind p (method_at p s.top.number).class i
  form_kind = all_there (λ x. IsFormKind p (method_at p s.top.number).class x.form) r.body.code r.index (record { pc = s.top.pc; form = i }) (subst (λ (o : Option Body). IfSome o (λ b. IsBodyKind p (method_at p s.top.number).class b)) r.has_code (ty.linked.kinds.bodies s.top.number (has_number p s.top.number r.body r.has_code))).forms r.there

  pub form_found : IsFormFound p i
  form_found = all_there (λ x. IsFormFound p x.form) r.body.code r.index (record { pc = s.top.pc; form = i }) (subst (λ (o : Option Body). IfSome o (λ b. All (λ x. IsFormFound p x.form) b.code)) r.has_code (ty.linked.members.bodies s.top.number (has_number p s.top.number r.body r.has_code))) r.there

  -- the frame goes on at a place that the instruction leads to
  pub at_typed : {vs : List Value} (to : ℕ) → list_any (λ m. nat_eq m to) (leads i) ≡ true → IsPlace r.body to → Locals p w (here r) (then r).locals s.top.locals → Held p w (here r) (then r).stack vs
      → TypedEntries p w None (record { top = record { kind = s.top.kind; number = s.top.number; pc = to; stack = vs; locals = s.top.locals }; below = s.below })
  at_typed {vs = vs} to l pl hl hv =
      let y = placed_at r.body to pl in
      let x : Placed = record { pc = s.top.pc; form = i } in
      let t = leads_target (here r) to r.index x r.there l in
      let f = any_all to (leads i) (λ k. fits_at p (here r) (then r) k) l (and_parts _ _ (and_parts _ _ r.kept.four).1).0 in
      frame None to vs s.top.locals
      (subst (λ (pc : ℕ). Goes p w (record { kind = InMethod; number = s.top.number; pc = pc; stack = vs; locals = s.top.locals })) y.3
      (arrived_at p ty s.top.number r.body r.given r.has_code r.has_frames w y.0 y.1 (then r) s.top.locals vs y.2
      (subst (λ (pc : ℕ). is_target (here r) pc ≡ true) (sym y.3) t) (subst (λ (pc : ℕ). fits_at p (here r) (then r) pc ≡ true) (sym y.3) f) hl hv)) hv.range hl.range

  pub to : {vs : List Value} (at : ℕ) → list_any (λ m. nat_eq m at) (leads i) ≡ true → IsPlace r.body at → Locals p w (here r) (then r).locals s.top.locals → Held p w (here r) (then r).stack vs → Row p w (goes_to at s vs)
  to at l pl hl hv = typed_done (at_typed at l pl hl hv)

  -- the frame stands, whatever its operands
  pub standing : (vs : List Value) → Stands p w (record { kind = InMethod; number = s.top.number; pc = s.top.pc; stack = vs; locals = s.top.locals })
  standing vs = record { body = r.body; given = r.given; index = r.index; instruction = record { pc = s.top.pc; form = i }; types = r.types; fits = r.fits; has_code = r.has_code; has_frames = r.has_frames; there = r.there; place = refl; known = r.known; locals = r.locals.types }

  -- the frame waits at its call for the method m
  pub waits_typed : (named m : ℕ) → called_by i ≡ Some named → (method_at p m).name ≡ (method_at p named).name → (method_at p m).descriptor ≡ (method_at p named).descriptor → {vs : List Value} → Held p w (here r) (rest r) vs → Waits p w m (record s.top { stack = vs })
  waits_typed named m c a d h = record {
    stands = record { body = r.body; given = r.given; index = r.index; instruction = record { pc = s.top.pc; form = i }; types = r.types; fits = r.fits; has_code = r.has_code; has_frames = r.has_frames; there = r.there; place = refl; known = r.known; locals = r.locals.types };
    named = named;
    call = c;
    same_name = a;
    same_descriptor = d;
    operands = h.types;
  }

  -- the frame may be tried again
  pub again_typed : TypedEntries p w None s
  unfolding standing
  again_typed = frame None s.top.pc s.top.stack s.top.locals (record { stands = standing s.top.stack; operands = r.stack.types }) r.stack.range r.locals.range

  -- something is raised in the frame
  pub raised_typed : (v : Value) (vs : List Value) → Ranged p w vs → TypedEntries p w (Some v) (with_stack s vs)
  raised_typed v vs g = frame (Some v) s.top.pc vs s.top.locals (standing vs) g r.locals.range
