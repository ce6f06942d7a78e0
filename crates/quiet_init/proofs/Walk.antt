-- The code of a quiet initialiser in the world of the opening values: each instruction has its row, and the world stays typed.
use Rattle.std.proofs.Common.{◌≡◌, ◌≢◌, ℕ, suc, List, [], ◌∷◌, length, drop, true, false, ◌||◌, Option, Some, None, IfSome, refl, sym, ◌∙◌, ap, subst, arith}
use Rattle.std.specs.List.{IsDistinct}
use Rattle.std.proofs.lemmas.{Bool.and_parts, Option.same_Some}
use Rattle.jvm_model.specs.declared.{values.InitState.TheVariants.Running, state.EntryKind.TheVariants.InMethod, state.EntryKind.TheVariants.InClass}
use Rattle.jvm_model.specs.declared.values.Location.TheVariants as place
use Rattle.jvm_model.specs.declared.{instr.Instr.Instr, program.Body.Body, program.Placed.Placed, program.Program.Program}
use Rattle.jvm_model.specs.declared.instr.Instr.TheVariants as form
use Rattle.jvm_model.specs.{World.World, World.Object, World.at, World.size, Entries.Entries, Entries.entries_of, Entries.frame_of, Access.run, Suite.opening}
use Rattle.jvm_model.specs.{Linked.Ascends, Linked.IsInitialiser, Linked.IsBody, Rows.Answer, Rows.answer, Rows.stuck_row}
use Rattle.jvm_model.specs.Classes.{class_at, field_at, method_at, is_trivial, form_at, next_place}
use Rattle.jvm_model.specs.Step.{row, row_or_none, row_here}
use Rattle.jvm_model.proofs.{Locations.at_put_same, Places.form_at_index}
use Rattle.type_frames.specs.{Typing.IsTyped, TypedState.TypedWorld}
use Rattle.check_sound.proofs.{TreeRuns.alike_itself, TreeRuns.tree_leaves, WorldKept.world_mark, Onward.grows_alike, Onward.entries_grow}
use Rattle.check_sound.proofs.Ready.{TypedEntries, closed, Ends, Row, Ready, ready}
use Rattle.check_sound.proofs.{Arguments.entered_frame, DriverRows.enters_static, InitRows.nontrivial_class, WholeStep.here-typed, WholeTest.opening_typed}
use Rattle.check_sound.proofs.AllGroups.{groups}
use Rattle.quiet_init.specs.Quiet.{is_calm, is_own, is_still, no_handler, is_still_body, starts_still, is_still_start, is_quiet, goes_with, left_after, begun_world, left_by_start, left_by_body, left_by}
use Rattle.quiet_init.specs.{StillLaw.HaveRows, Opens.LeavesTyped, Opens.LeftLaw}
use Rattle.quiet_init.proofs.{Still.moved, Still.still_row, Still.end_world, Still.end_row, Trivials.quiet_loud, Sounds.bodies, Constants.declared_opens}
use Rattle.quiet_init.proofs.StillSteps.{drop_first, drop_more, drop_within, left_operands, first_place, starts_at, next_is}

-- each instruction stands ready at the top of its entries, in a frame of the method
abbrev pub AllReady : Program → ℕ → List Placed → Entries → World → Type 0
AllReady p m [] s w = Unit {0}
AllReady p m (x ∷ xs) s w = let r = run (row p x.form s) w in (s.top.number ≡ m) × Ready p w s x.form × AllReady p m xs (goes_with s r.value) r.world

-- the code has rows, and leaves a typed world
pub record Walked (p : Program) (m : ℕ) (xs : List Placed) (s : Entries) (w : World) : Type 0 where
  pub rows : HaveRows p xs s w
  pub ready : AllReady p m xs s w
  pub world : TypedWorld p (left_after p xs s w)
  pub objects : (left_after p xs s w).objects ≡ w.objects

module _ (p : Program) (ty : IsTyped p) (c m : ℕ) (n : is_trivial p c ≡ false) (b : Body) (hb : (method_at p m).body ≡ Some b) (asc : Ascends 0 b.code) where
  form_is : (k : ℕ) (x : Placed) (ys : List Placed) (s : Entries) → drop k b.code ≡ x ∷ ys → s.top.number ≡ m → s.top.pc ≡ x.pc → form_at p s.top.number s.top.pc ≡ Some x.form
  form_is k x ys s d hm hp =
      let g = drop_first k b.code x x ys d in
      ap (λ (z : ℕ). form_at p z s.top.pc) hm ∙ (ap (λ (z : ℕ). form_at p m z) hp
      ∙ subst (λ (y : Placed). form_at p m y.pc ≡ Some y.form) g (form_at_index p m b k x hb asc (drop_within k b.code x ys d)))

  row_typed : (x : Placed) (s : Entries) (w : World) → form_at p s.top.number s.top.pc ≡ Some x.form → s.top.kind ≡ InMethod → TypedEntries p w None s → Row p w (row p x.form s)
  unfolding row_here
  row_typed x s w f k t = subst (λ (o : Option Instr). Row p w (row_or_none p o s)) f (here-typed p ty (groups p ty) w s k t)

  ends_row : (w : World) (a : Answer Entries) → Ends p w a → a ≢ stuck_row
  ends_row w stuck_row h e = h
  ends_row w (answer x s) h e = absurd (cc)

  ready_here : (x : Placed) (s : Entries) (w : World) → form_at p s.top.number s.top.pc ≡ Some x.form → s.top.kind ≡ InMethod → TypedEntries p w None s → Ready p w s x.form
  ready_here x s w f k t = let r = ready p ty s k t in subst (λ (i : Instr). Ready p w s i) (same_Some r.0 x.form (sym r.1 ∙ f)) r.2

  walk : (k : ℕ) (xs : List Placed) (s : Entries) (w : World) → drop k b.code ≡ xs → is_still p c xs ≡ true → s.top.kind ≡ InMethod → s.top.number ≡ m → s.top.pc ≡ first_place xs → at w (place.Init c) ≡ Running →
      TypedWorld p w → TypedEntries p w None s → Walked p m xs s w
  walk k [] s w d h hk hm hp i tw te = absurd (cc)
  walk k (x ∷ []) s w d h hk hm hp i tw te = record { rows = (end_row p x.form s w h, tt); ready = (hm, ready_here x s w (form_is k x [] s d hm hp) hk te, tt); world = subst (λ (z : World). TypedWorld p z) (sym (end_world p x.form s w h)) tw; objects = ap (λ (z : World). z.objects) (end_world p x.form s w h) }
  walk k (x ∷ y ∷ ys) s w d h hk hm hp i tw te =
      let hs = and_parts (is_calm x.form || is_own p c x.form) (is_still p c (y ∷ ys)) h in
      let r = run (row p x.form s) w in
      let l = tree_leaves p (Ends p) (row p x.form s) w w (alike_itself w) tw (row_typed x s w (form_is k x (y ∷ ys) s d hm hp) hk te) in
      let has : r.value ≢ stuck_row = ends_row l.seen r.value l.answer in
      let a = still_row p c n s.below s w w (record { left = i; right = i; own = λ f q. refl }) x.form hs.0 in
      let o = left_operands a.met has in
      let t = moved p s o.0 in
      let z : goes_with s r.value ≡ t = ap (λ (q : Answer Entries). goes_with s q) o.1 in
      let e : TypedEntries p r.world None t = entries_grow None t (grows_alike l.seen r.world l.alike) (subst (λ (q : Answer Entries). Ends p l.seen q) o.1 l.answer) in
      let next_pc : next_place p s.top.number s.top.pc ≡ y.pc = ap (λ (q : ℕ). next_place p q s.top.pc) hm ∙ (ap (λ (q : ℕ). next_place p m q) hp ∙ next_is p c m n b hb asc (record { kind = InClass true; number = c; pc = 0; stack = []; locals = [] }) [] refl k x y ys d) in
      let v = walk (suc k) (y ∷ ys) t r.world (drop_more k b.code x (y ∷ ys) d) hs.1 hk hm next_pc a.twin.left l.world e in
      record {
        rows = (has, subst (λ (q : Entries). HaveRows p (y ∷ ys) q r.world) (sym z) v.rows);
        ready = (hm, ready_here x s w (form_is k x (y ∷ ys) s d hm hp) hk te, subst (λ (q : Entries). AllReady p m (y ∷ ys) q r.world) (sym z) v.ready);
        world = subst (λ (q : Entries). TypedWorld p (left_after p (y ∷ ys) q r.world)) (sym z) v.world;
        objects = subst (λ (q : Entries). (left_after p (y ∷ ys) q r.world).objects ≡ w.objects) (sym z) (v.objects ∙ a.alone.objects);
      }

module _ (p : Program) (ty : IsTyped p) (c m : ℕ) (b : Body) (n : is_trivial p c ≡ false) (hi : (class_at p c).initialiser ≡ Some m) (hb : (method_at p m).body ≡ Some b) (h : is_still p c b.code ≡ true) where
  is_init : IsInitialiser p c m
  is_init = subst (λ (o : Option ℕ). IfSome o (λ m. IsInitialiser p c m)) hi (ty.linked.listed.initialisers c (nontrivial_class p ty.linked c n))

  body : IsBody b
  body = bodies p ty.linked c m b hi hb

  begun : TypedEntries p (begun_world p c) None (entries_of (frame_of b m [] ∷ []))
  unfolding IsDistinct
  begun = let i = is_init in
      let e = entered_frame p ty (begun_world p c) m b [] hb (enters_static p ty (begun_world p c) m i.static i.descriptor) tt in
      closed None (frame_of b m []) tt e.goes tt e.range (record { each = tt; range = tt; few = omega arith; apart = tt })

  pub walked : Walked p m b.code (entries_of (frame_of b m [] ∷ [])) (begun_world p c)
  unfolding opening
  walked = walk p ty c m n b hb body.ascending 0 b.code (entries_of (frame_of b m [] ∷ [])) (begun_world p c) refl h refl refl
      (starts_at b.code (record { pc = 0; form = form.Nop }) body.some body.first) (at_put_same (opening p) (place.Init c) Running refl)
      (world_mark p (opening p) c Running (opening_typed p ty) (nontrivial_class p ty.linked c n)) begun

module _ (p : Program) (c : ℕ) (ty : IsTyped p) (n : is_trivial p c ≡ false) where
  by_body : (m : ℕ) → (class_at p c).initialiser ≡ Some m → (o : Option Body) → (method_at p m).body ≡ o → is_still_body p c o ≡ true → LeavesTyped p c
  unfolding left_by opening
  by_body m e None f h = absurd (cc)
  by_body m e (Some b) f h =
      let w = walked p ty c m b n e f (and_parts (no_handler b.handlers) (is_still p c b.code) h).1 in
      record {
        rows = λ m2 b2 e2 f2.
            let em : m ≡ m2 = some_is m m2 (sym e ∙ e2) in
            subst (λ (k : ℕ). ((method_at p k).body ≡ Some b2) → HaveRows p b2.code (entries_of (frame_of b2 k [] ∷ [])) (begun_world p c)) em
            (λ g. subst (λ (x : Body). HaveRows p x.code (entries_of (frame_of x m [] ∷ [])) (begun_world p c)) (some_is b b2 (sym f ∙ g)) w.rows) f2;
        world = subst (λ (z : World). TypedWorld p z) left_is w.world;
        opening = λ g i. declared_opens p ty.linked (left_by p c) (field_at p g).descriptor (at (left_by p c) (place.Static g)) (subst (λ (z : World). size z ≡ 0) left_is (ap (λ (os : List Object). length os) w.objects)) (ty.linked.listed.field_names g i).1
            ((subst (λ (z : World). TypedWorld p z) left_is w.world).statics g i).1;
      }
    where
      left_is : left_after p b.code (entries_of (frame_of b m [] ∷ [])) (begun_world p c) ≡ left_by p c
      left_is = sym (ap (λ (z : Option ℕ). left_by_start p c z) e ∙ ap (λ (z : Option Body). left_by_body p c m z) f)

      some_is : {A : Type 0} (x y : A) → Some x ≡ Some y → x ≡ y
      some_is x y e = cc

  by_start : (o : Option ℕ) → (class_at p c).initialiser ≡ o → starts_still p c o ≡ true → LeavesTyped p c
  by_start None e h = absurd (cc)
  by_start (Some m) e h = by_body m e (method_at p m).body refl h

pub left_law : LeftLaw
unfolding is_quiet
left_law p c ty q = by_start p c ty (quiet_loud p c q) (class_at p c).initialiser refl (and_parts (is_still_start p c) _ q).0
