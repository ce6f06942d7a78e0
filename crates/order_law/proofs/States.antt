-- States of two matched programs in pairs.
use Rattle.std.proofs.Common.{◌≡◌, ℕ, ◌-◌, List, ◌∷◌, length, replicate, nat_le, Bool, true, refl, ap, subst, Option}
use Rattle.jvm_model.specs.declared.{values.Value.Value, values.Value.TheVariants.Null, outcome.Next.Next, outcome.Verdict.Verdict, program.Body.Body}
use Rattle.jvm_model.specs.declared.outcome.Next.TheVariants.{Go, Fault, Raise, Enter, Leave, Over}
use Rattle.jvm_model.specs.declared.{program.Program.Program, state.EntryKind.EntryKind}
use Rattle.jvm_model.specs.declared.state.{EntryKind.TheVariants.Absent, EntryKind.TheVariants.InMethod, EntryKind.TheVariants.InClass, Stage.Stage}
use Rattle.jvm_model.specs.Working.{Working}
use Rattle.jvm_model.specs.declared.state.Stage.TheVariants.{First, Made, Built, SetUp, Called, Last}
use Rattle.jvm_model.specs.Entries.{Entry, Entries, no_entries, entry_limit, all_entries, is_full, with_entry, entries_of, popped_entry, with_stack, with_place, class_entry, slots_of, filled, frame_of, frame_cost, called}
use Rattle.jvm_model.specs.Rows.{Answer, answer, stuck_row, Used, ready, begun, refused}
use Rattle.jvm_model.specs.State.{State, Turn, next, ended, stuck_turn, test_at}
use Rattle.order_law.specs.Pairing.{PairedList, no_more, one_more, PairedOption, PairedValue, ints, longs, nulls, literals, objects}
use Rattle.order_law.specs.{Numbers.Numbers, Numbers.with_places, Matched.PairedBody, Matched.PairedTest, Outcomes.PairedVerdict}
use Rattle.order_law.proofs.Pairs.{list-append}
use Rattle.order_law.proofs.Lists.{length-paired, take-list, drop-list, reverse-list, replicate-list}

module _ (n : Numbers) (P : ℕ → ℕ → Type 0) where
  -- an entry's number is that of its method or class
  abbrev pub PairedNumber : EntryKind → ℕ → ℕ → Type 0
  PairedNumber Absent a b = Unit {0}
  PairedNumber InMethod a b = n.method a b ≡ true
  PairedNumber (InClass x) a b = n.class a b ≡ true

  pub record PairedEntry (e f : Entry) : Type 0 where
    pub kind : e.kind ≡ f.kind
    pub number : PairedNumber e.kind e.number f.number
    pub pc : e.pc ≡ f.pc
    pub stack : PairedList (PairedValue (with_places n P)) e.stack f.stack
    pub locals : PairedList (PairedValue (with_places n P)) e.locals f.locals

  pub record PairedEntries (s t : Entries) : Type 0 where
    pub top : PairedEntry s.top t.top
    pub below : PairedList PairedEntry s.below t.below

  -- the top is a frame
  pub record PairedFrame (s t : Entries) : Type 0 where
    pub entries : PairedEntries s t
    pub method : n.method s.top.number t.top.number ≡ true

  pub record PairedWorking (s t : Working) : Type 0 where
    pub entries : PairedFrame s.entries t.entries
    pub own : s.own ≡ t.own

  pub data PairedNext : Next → Next → Type 0 where
    go : PairedNext Go Go
    fault : {c d : ℕ} → n.class c d ≡ true → PairedNext (Fault c) (Fault d)
    raised : {v w : Value} → PairedValue (with_places n P) v w → PairedNext (Raise v) (Raise w)
    leave : PairedNext Leave Leave
    over : PairedNext Over Over

  -- where a method is entered, the state left is in the relation F, else in E
  pub data PairedAnswer {S : Type 0} (E F : S → S → Type 0) : Answer S → Answer S → Type 0 where
    answered : {x y : Next} {s t : S} → PairedNext x y → E s t → PairedAnswer E F (answer x s) (answer y t)
    entering : {a b : ℕ} {s t : S} → n.method a b ≡ true → F s t → PairedAnswer E F (answer (Enter a) s) (answer (Enter b) t)
    no_rows : PairedAnswer E F stuck_row stuck_row

  pub data PairedUsed : Used → Used → Type 0 where
    both_ready : PairedUsed ready ready
    both_begun : {s t : Entries} → PairedEntries s t → PairedUsed (begun s) (begun t)
    both_refused : {c d : ℕ} → n.class c d ≡ true → PairedUsed (refused c) (refused d)

  pub data PairedStage : Stage → Stage → Type 0 where
    both_first : PairedStage First First
    both_made : {a b : ℕ} → P a b → PairedStage (Made a) (Made b)
    both_built : {a b : ℕ} → P a b → PairedStage (Built a) (Built b)
    both_set_up : {a b : ℕ} → P a b → PairedStage (SetUp a) (SetUp b)
    both_called : {a b : ℕ} {v w : Option Value} → P a b → PairedOption (PairedValue (with_places n P)) v w → PairedStage (Called a v) (Called b w)
    both_last : {v w : Option Value} → PairedOption (PairedValue (with_places n P)) v w → PairedStage (Last v) (Last w)

  -- entries
  all_at : (k : EntryKind) {e f : Entry} {bs cs : List Entry} → PairedEntry e f → PairedList PairedEntry bs cs →
      PairedList PairedEntry (elim k [ Absent ↦ bs | InMethod ↦ e ∷ bs | InClass b ↦ e ∷ bs ]) (elim k [ Absent ↦ cs | InMethod ↦ f ∷ cs | InClass b ↦ f ∷ cs ])
  all_at Absent r rs = rs
  all_at _ r rs = one_more r rs

  pub all-paired : {s t : Entries} → PairedEntries s t → PairedList PairedEntry (all_entries s) (all_entries t)
  all-paired {s} {t} r = subst (λ (k : EntryKind). PairedList PairedEntry (all_entries s) (elim k [ Absent ↦ t.below | InMethod ↦ t.top ∷ t.below | InClass b ↦ t.top ∷ t.below ])) r.top.kind (all_at s.top.kind r.top r.below)

  pub full-paired : {s t : Entries} → PairedEntries s t → is_full s ≡ is_full t
  full-paired r = ap (λ (k : ℕ). nat_le entry_limit k) (length-paired PairedEntry (all-paired r))

  pub entry-paired : {e f : Entry} {s t : Entries} → PairedEntry e f → PairedEntries s t → PairedEntries (with_entry e s) (with_entry f t)
  entry-paired r rs = record { top = r; below = all-paired rs }

  pub nothing-paired : PairedEntries no_entries no_entries
  nothing-paired = record { top = record { kind = refl; number = tt; pc = refl; stack = no_more; locals = no_more }; below = no_more }

  entries_of-paired : {bs cs : List Entry} → PairedList PairedEntry bs cs → PairedEntries (entries_of bs) (entries_of cs)
  entries_of-paired no_more = nothing-paired
  entries_of-paired (one_more r rs) = record { top = r; below = rs }

  pub popped-paired : {s t : Entries} → PairedEntries s t → PairedEntries (popped_entry s) (popped_entry t)
  popped-paired r = entries_of-paired r.below

  pub stack-paired : {s t : Entries} {vs ws : List Value} → PairedFrame s t → PairedList (PairedValue (with_places n P)) vs ws → PairedFrame (with_stack s vs) (with_stack t ws)
  stack-paired f r = record {
    entries = record { top = record { kind = f.entries.top.kind; number = f.entries.top.number; pc = f.entries.top.pc; stack = r; locals = f.entries.top.locals }; below = f.entries.below };
    method = f.method;
  }

  pub place-paired : {s t : Entries} {a b : ℕ} → PairedFrame s t → a ≡ b → PairedFrame (with_place s a) (with_place t b)
  place-paired f e = record {
    entries = record { top = record { kind = f.entries.top.kind; number = f.entries.top.number; pc = e; stack = f.entries.top.stack; locals = f.entries.top.locals }; below = f.entries.below };
    method = f.method;
  }

  pub class_entry-paired : (c d : ℕ) → n.class c d ≡ true → PairedEntry (class_entry c) (class_entry d)
  class_entry-paired c d e = record { kind = refl; number = e; pc = refl; stack = no_more; locals = no_more }

  slots-paired : {vs ws : List Value} → PairedList (PairedValue (with_places n P)) vs ws → PairedList (PairedValue (with_places n P)) (slots_of vs) (slots_of ws)
  slots-paired no_more = no_more
  slots-paired (one_more (longs k) rs) = one_more (longs k) (one_more nulls (slots-paired rs))
  slots-paired (one_more (ints k) rs) = one_more (ints k) (slots-paired rs)
  slots-paired (one_more nulls rs) = one_more nulls (slots-paired rs)
  slots-paired (one_more (literals e) rs) = one_more (literals e) (slots-paired rs)
  slots-paired (one_more (objects e) rs) = one_more (objects e) (slots-paired rs)

  filled-paired : {a b : ℕ} {vs ws : List Value} → a ≡ b → PairedList (PairedValue (with_places n P)) vs ws → PairedList (PairedValue (with_places n P)) (filled a vs) (filled b ws)
  filled-paired {a} {b} {vs} {ws} e r = let k : a - length vs ≡ b - length ws = rw (e, length-paired (PairedValue (with_places n P)) r) refl in
      list-append r (subst (λ (z : ℕ). PairedList (PairedValue (with_places n P)) (replicate (a - length vs) Null) (replicate z Null)) k (replicate-list (PairedValue (with_places n P)) (a - length vs) nulls))

  pub frame-paired : {x y : Body} {a b : ℕ} {vs ws : List Value} → PairedBody n x y → n.method a b ≡ true → PairedList (PairedValue (with_places n P)) vs ws → PairedEntry (frame_of x a vs) (frame_of y b ws)
  frame-paired r e vs = record { kind = refl; number = e; pc = refl; stack = no_more; locals = filled-paired r.max_locals (slots-paired vs) }

  pub cost-paired : {x y : Body} → PairedBody n x y → frame_cost x ≡ frame_cost y
  cost-paired r = rw (r.max_stack, r.max_locals) refl

  pub called-paired : {x y : Body} {a b : ℕ} {s t : Entries} (k : ℕ) → PairedBody n x y → n.method a b ≡ true → PairedFrame s t → PairedFrame (called x a k s) (called y b k t)
  called-paired k r e f = record {
    entries = entry-paired (frame-paired r e (reverse-list (PairedValue (with_places n P)) (take-list (PairedValue (with_places n P)) k f.entries.top.stack)))
        (stack-paired f (drop-list (PairedValue (with_places n P)) k f.entries.top.stack)).entries;
    method = e;
  }

  -- the top of paired entries is a frame on both sides
  pub frame_top : {s t : Entries} → PairedEntries s t → s.top.kind ≡ InMethod → PairedFrame s t
  frame_top {s} {t} r e = record { entries = r; method = subst (λ (k : EntryKind). PairedNumber k s.top.number t.top.number) e r.top.number }

  pub class_top : {s t : Entries} {b : Bool} → PairedEntries s t → s.top.kind ≡ InClass b → n.class s.top.number t.top.number ≡ true
  class_top {s} {t} r e = subst (λ (k : EntryKind). PairedNumber k s.top.number t.top.number) e r.top.number

  -- whole states
  module _ (p q : Program) where
    pub record PairedState (s t : State) : Type 0 where
      pub test : PairedTest n (test_at p s.test) (test_at q t.test)
      pub entries : PairedEntries s.entries t.entries
      pub stage : PairedStage s.stage t.stage
      pub raised : PairedOption (PairedValue (with_places n P)) s.raised t.raised
      pub own : s.own ≡ t.own

    pub data PairedTurn : Turn → Turn → Type 0 where
      both_next : {s t : State} → PairedState s t → PairedTurn (next s) (next t)
      both_ended : {v w : Verdict} {o r : List ℕ} → PairedVerdict n v w → o ≡ r → PairedTurn (ended v o) (ended w r)
      no_turns : PairedTurn stuck_turn stuck_turn
