-- What is kept of a run of a program's tests gives all that is found.
use Rattle.std.proofs.Common.{◌≡◌, ◌+◌, ◌<◌, ◌≤◌, ℕ, zero, suc, Bool, false, not, ◌||◌, List, [], ◌∷◌, ◌++◌, length, get_or, map, slice_get, refl, sym, ◌∙◌, ap, subst, arith, Some}
use Rattle.std.specs.List.{list_all}
use Rattle.jvm_model.specs.{Builtin.out_field, World.same}
use Rattle.jvm_model.specs.declared.program.Program.{Program}
use Rattle.jvm_model.specs.declared.values.{Location.Location, Touch.Touch}
use Rattle.jvm_model.specs.declared.values.Location.TheVariants as place
use Rattle.order_law.specs.declared.edges.Edge.{Edge}
use Rattle.order_law.specs.declared.records.Shown.{Shown}
use Rattle.order_law.specs.{Exposed.exposed, Histories.Touches, OwnRecord.edges_in, OwnRecord.owner_in, Pairing.PairedList, Walk.IsShownIn}
use Rattle.vm_mem.specs.Trace.{Trace}
use Rattle.access_tags.specs.declared.ended.Ended.{Ended}
use Rattle.access_tags.specs.declared.memory.TaggedMemory.{TaggedMemory}
use Rattle.access_tags.specs.Followed.{IsEnded, IsTold, Follows, keeps_walks}
use Rattle.access_tags.specs.FoundIn.{AreEnded, added, edges_up_to}
use Rattle.access_tags.specs.Ran.{trace_to, touched_by, size_in, owner_by}
use Rattle.access_tags.specs.{Settled.reads_out_alone, Tag.places}

pub trace_test : (T : Touches) (t : ℕ) → (trace_to T t).test ≡ t
trace_test T zero = refl
trace_test T (suc t) = refl

pub touched_at : (T : Touches) (n : ℕ) → 0 < n → T n ≡ touched_by T n
touched_at T zero h = absurd (omega arith)
touched_at T (suc n) h = refl

-- what a memory that follows a run is told of it
module _ {W : ℕ} (m : TaggedMemory W) (T : Touches) (n : ℕ) (f : Follows m (trace_to T n) (touched_by T n)) where
  pub told_all : IsTold T n (touched_by T n) m
  told_all = let e = trace_test T n in subst (λ (t : ℕ). IsTold T t (touched_by T n) m) e (f.told T (ap (λ (t : ℕ). trace_to T t) (sym e)))

  pub test_all : m.test ≡ n
  test_all = f.test ∙ trace_test T n

  pub count_all : 0 < n → length m.ended + 1 ≡ n
  count_all h = let e = told_all.each in omega arith

  pub ended_all : (last : Ended) → 0 < n → ((h : Trace) (ts : List Touch) (S : Touches) → Follows m h ts → h ≡ trace_to S h.test → S h.test ≡ ts → IsEnded (keeps_walks W) S m.names h.test last) → AreEnded (keeps_walks W) T m.names m.ended last
  ended_all last h s =
      let e = trace_test T n in
      let own : IsEnded (keeps_walks W) T m.names (trace_to T n).test last = s (trace_to T n) (touched_by T n) T f (ap (λ (t : ℕ). trace_to T t) (sym e)) (ap (λ (t : ℕ). T t) e ∙ touched_at T n h) in
      record {
        each = told_all.ended;
        last = subst (λ (t : ℕ). IsEnded (keeps_walks W) T m.names t last) (e ∙ sym (count_all h)) own;
      }

  -- the same of lists that are those of the memory
  pub kept_all : (names : List Location) (ended : List Ended) (last : Ended) → names ≡ m.names → ended ≡ m.ended → 0 < n →
      ((h : Trace) (ts : List Touch) (S : Touches) → Follows m h ts → h ≡ trace_to S h.test → S h.test ≡ ts → IsEnded (keeps_walks W) S m.names h.test last) → AreEnded (keeps_walks W) T names ended last
  kept_all names ended last e g h s = subst (λ (ns : List Location). AreEnded (keeps_walks W) T ns ended last) (sym e) (subst (λ (xs : List Ended). AreEnded (keeps_walks W) T m.names xs last) (sym g) (ended_all last h s))

  pub count_by : (ended : List Ended) → ended ≡ m.ended → 0 < n → length ended + 1 ≡ n
  count_by ended g h = ap (λ (xs : List Ended). length xs + 1) g ∙ count_all h

module _ (p : Program) (T : Touches) where
  pub none_found : (by : ℕ → ℕ × ℕ) → length p.tests ≡ 0 → edges_in p T by ≡ []
  unfolding edges_in
  none_found by e = ap (λ (k : ℕ). edges_up_to p T by k) e

  pub all_edges : (n : ℕ) (made : List ℕ) (es : List Edge) → n ≡ length p.tests → made ≡ added (size_in T) n → es ≡ edges_up_to p T (owner_in made) n → es ≡ edges_in p T (owner_by p T)
  unfolding edges_in
  all_edges n made es q e r = r ∙ (ap (λ (ms : List ℕ). edges_up_to p T (owner_in ms) n) e ∙ ap (λ (k : ℕ). edges_up_to p T (owner_in (added (size_in T) k)) k) q)

  pub all_shown : (n : ℕ) (made : List ℕ) (ss : List Shown) → n ≡ length p.tests → made ≡ added (size_in T) n → PairedList (IsShownIn p T (owner_in made)) (edges_up_to p T (owner_in made) n) ss →
      PairedList (IsShownIn p T (owner_by p T)) (edges_in p T (owner_by p T)) ss
  unfolding edges_in
  all_shown n made ss q e r = subst (λ (k : ℕ). PairedList (IsShownIn p T (owner_in (added (size_in T) k))) (edges_up_to p T (owner_in (added (size_in T) k)) k) ss) q
      (subst (λ (ms : List ℕ). PairedList (IsShownIn p T (owner_in ms)) (edges_up_to p T (owner_in ms) n) ss) e r)

pub positive : (k : ℕ) → (k ≡ 0 → ⊥) → 0 < k
positive zero f = absurd (f refl)
positive (suc k) f = omega arith

-- whether each exposed read is of the static `System.out`
abbrev pub alone_in : List Touch → Bool
alone_in ts = list_all (λ L. not (exposed ts L) || same L (place.Static out_field)) (places ts)

pub last_alone : {W : ℕ} (m : TaggedMemory W) (T : Touches) (n : ℕ) (f : Follows m (trace_to T n) (touched_by T n)) (b : Bool) → 0 < n → b ≡ alone_in (touched_by T n) → b ≡ reads_out_alone T (length m.ended + 1)
last_alone m T n f b h e = e ∙ ap (λ (ts : List Touch). alone_in ts) (sym (touched_at T n h) ∙ ap (λ (t : ℕ). T t) (sym (count_all m T n f h)))

-- marks of entries, and one more behind them
pub marks_there : (R : ℕ → Bool) (xs : List Ended) (b : Bool) → ((i : ℕ) (x : Ended) → slice_get xs i ≡ Some x → x.alone ≡ R i) → b ≡ R (length xs) → (i : ℕ) → i ≤ length xs →
    get_or (map (λ (x : Ended). x.alone) xs ++ b ∷ []) i false ≡ R i
marks_there R [] b f e zero h = e
marks_there R [] b f e (suc i) h = absurd (omega arith)
marks_there R (x ∷ xs) b f e zero h = f 0 x refl
marks_there R (x ∷ xs) b f e (suc i) h = marks_there (λ (j : ℕ). R (suc j)) xs b (λ j y k. f (suc j) y k) e i (omega arith)
