-- A frame of types has as many locals as the method has at least.
use Rattle.std.proofs.Common.{◌≡◌, ℕ, zero, suc, ◌+◌, ◌-◌, ◌≤◌, List, [], ◌∷◌, length, map, replicate, slice_get, slice_set, Bool, true, false, cond, Option, Some, None, refl, sym, ◌∙◌, ap, subst, arith, length-append}
use Rattle.std.specs.Prelude.{slice_index_or}
use Rattle.std.proofs.lemmas.List.{length-replicate}
use Rattle.jvm_model.specs.declared.program.{Program.Program, MethodRec.MethodRec, Body.Body, FrameRec.FrameRec, Placed.Placed}
use Rattle.type_frames.specs.declared.vtype.{VType.VType, VType.TheVariants.Top, VType.TheVariants.Long, Frame.Frame}
use Rattle.type_frames.specs.declared.stack_effect.{LocalUpdate.LocalUpdate, Substitution.Substitution}
use Rattle.type_frames.specs.{declared.stack_effect.Substitution.TheVariants.Keep, declared.stack_effect.Substitution.TheVariants.All, StackEffect.sides}
use Rattle.type_frames.specs.Frames.{Slots, slots_of, padded, spread, same, index_of}
use Rattle.type_frames.specs.Given.{entry_types, all_types, joined, locals_after, is_place, frame_at, frame_then, frames_from, body_frames, given_frames}
use Rattle.type_frames.specs.Environment.{Environment, environment_of, given_at, is_target, found_at}
use Rattle.type_frames.specs.Rules.{turned, turned_one, cut_long, set_one, set_all, after, opening}
use Rattle.type_frames.specs.Typing.{passed_on, taken_at, taken_by, incoming, before}

abbrev IsWide : ℕ → Frame → Type 0
IsWide n g = n ≤ length g.locals

abbrev AllWide : ℕ → List Frame → Type 0
AllWide n [] = Unit {0}
AllWide n (g ∷ gs) = IsWide n g × AllWide n gs

padded_wide : (n : ℕ) (ts : List VType) → n ≤ length (padded n ts)
padded_wide n ts = let a = length-append ts (replicate (n - length ts) Top) in let b = length-replicate (n - length ts) Top in omega arith

then_wide : (b : Body) (pc : ℕ) (locals : List VType) (stack : Option (List VType)) (rest : Option (List Frame)) (gs : List Frame) → ((hs : List Frame) → rest ≡ Some hs → AllWide b.max_locals hs) → frame_then b pc locals stack rest ≡ Some gs → AllWide b.max_locals gs
then_wide b pc locals None rest gs f e = absurd (cc)
then_wide b pc locals (Some stack) rest gs f e = by (is_place b.code pc) e
  where
    at_rest : (rest : Option (List Frame)) → ((hs : List Frame) → rest ≡ Some hs → AllWide b.max_locals hs) → joined (Some (frame_at b.max_locals pc locals stack)) rest ≡ Some gs → AllWide b.max_locals gs
    at_rest None f e = absurd (cc)
    at_rest (Some hs) f e = let q : frame_at b.max_locals pc locals stack ∷ hs ≡ gs = cc in subst (λ (xs : List Frame). AllWide b.max_locals xs) q (padded_wide b.max_locals (spread locals), f hs refl)

    by : (x : Bool) → elim x as (λ z. Option (List Frame)) [ true ↦ joined (Some (frame_at b.max_locals pc locals stack)) rest | false ↦ None ] ≡ Some gs → AllWide b.max_locals gs
    by true e = at_rest rest f e
    by false e = absurd (cc)

from_wide : (b : Body) (fs : List FrameRec) (least : ℕ) (ts : List VType) (gs : List Frame) → frames_from b least ts fs ≡ Some gs → AllWide b.max_locals gs
from_wide b [] least ts gs e = let q : [] ≡ gs = cc in subst (λ (xs : List Frame). AllWide b.max_locals xs) q tt
from_wide b (f ∷ fs) least ts gs e = by (locals_after b.max_locals ts f) (λ us hs q. from_wide b fs (least + f.delta + 1) us hs q) e
  where
    by : (o : Option (List VType)) → ((us : List VType) (hs : List Frame) → frames_from b (least + f.delta + 1) us fs ≡ Some hs → AllWide b.max_locals hs)
        → elim o as (λ z. Option (List Frame)) [ None ↦ None | Some us ↦ frame_then b (least + f.delta) us (all_types f.stack) (frames_from b (least + f.delta + 1) us fs) ] ≡ Some gs → AllWide b.max_locals gs
    by None k e = absurd (cc)
    by (Some us) k e = then_wide b (least + f.delta) us (all_types f.stack) (frames_from b (least + f.delta + 1) us fs) gs (λ hs q. k us hs q) e

body_wide : (b : Body) (ts : List VType) (gs : List Frame) → body_frames b ts ≡ Some gs → AllWide b.max_locals gs
unfolding body_frames
body_wide b ts gs e = by b.malformed e
  where
    by : (x : Bool) → elim x as (λ z. Option (List Frame)) [ true ↦ None | false ↦ frames_from b 0 ts b.frames ] ≡ Some gs → AllWide b.max_locals gs
    by true e = absurd (cc)
    by false e = from_wide b b.frames 0 ts gs e

given_wide : (p : Program) (m : MethodRec) (b : Body) (gs : List Frame) → m.body ≡ Some b → given_frames p m ≡ Some gs → AllWide b.max_locals gs
unfolding given_frames
given_wide p m b gs h e = body_wide b (entry_types p m) gs (sym (ap (λ (o : Option Body). elim o as (λ z. Option (List Frame)) [ None ↦ Some [] | Some c ↦ body_frames c (entry_types p m) ]) h) ∙ e)

found_wide : (n : ℕ) (gs : List Frame) (o : Option ℕ) (g : Frame) → AllWide n gs → found_at gs o ≡ Some g → IsWide n g
found_wide n gs None g h e = absurd (cc)
found_wide n [] (Some i) g h e = absurd (cc)
found_wide n (x ∷ gs) (Some zero) g h e = let q : x ≡ g = cc in subst (λ (y : Frame). IsWide n y) q h.0
found_wide n (x ∷ gs) (Some (suc i)) g h e = found_wide n gs (Some i) g h.1 e

-- what the rules make of locals has as many
length_slice_set : {X : Type 0} (xs : List X) (n : ℕ) (x : X) → length (slice_set xs n x) ≡ length xs
length_slice_set (y ∷ xs) (suc n) x = ap suc (length_slice_set xs n x)
length_slice_set _ _ x = refl

cut_length : (ts : List VType) (n : ℕ) → length (cut_long ts n) ≡ length ts
cut_length ts zero = refl
cut_length ts (suc n) = by (same (slice_index_or ts n Top) Long)
  where
    by : (b : Bool) → length (cond b (slice_set ts n Top) ts) ≡ length ts
    by true = length_slice_set ts n Top
    by false = refl

set_length : (ss : List LocalUpdate) (ts : List VType) → length (set_all ts ss) ≡ length ts
set_length [] ts = refl
set_length (s ∷ ss) ts = set_length ss (set_one ts s) ∙ (length_slice_set (cut_long ts s.local) s.local s.to ∙ cut_length ts s.local)

map_length : (a b : VType) (ts : List VType) → length (map (turned_one a b) ts) ≡ length ts
map_length a b [] = refl
map_length a b (t ∷ ts) = ap suc (map_length a b ts)

pub turned_length : (x : Substitution) (ts : List VType) → length (turned x ts) ≡ length ts
turned_length Keep ts = refl
turned_length (All a b) ts = map_length a b ts

abbrev WideSlots : ℕ → Option Slots → Type 0
WideSlots n o = (f : Slots) → o ≡ Some f → n ≤ length f.locals

module _ (p : Program) (e : Environment) (h : AllWide e.body.max_locals e.given) where
  taken_wide : (pc : ℕ) (o : Option Slots) → WideSlots e.body.max_locals o → WideSlots e.body.max_locals (taken_at e pc o)
  unfolding given_at
  taken_wide pc o k = by (given_at e pc) (λ g q. found_wide e.body.max_locals e.given (index_of pc (map (λ g. g.pc) e.given)) g h q)
    where
      by : (x : Option Frame) → ((g : Frame) → x ≡ Some g → IsWide e.body.max_locals g) → (f : Slots) → elim x as (λ z. Option Slots) [ Some g ↦ Some (slots_of g) | None ↦ cond (is_target e pc) None o ] ≡ Some f → e.body.max_locals ≤ length f.locals
      by (Some g) w f q = let z : slots_of g ≡ f = cc in subst (λ (y : Slots). e.body.max_locals ≤ length y.locals) z (w g refl)
      by None w f q = at (is_target e pc) q
        where
          at : (b : Bool) → cond b None o ≡ Some f → e.body.max_locals ≤ length f.locals
          at true q = absurd (cc)
          at false q = k f q

  by_place : (x : Option Placed) (o : Option Slots) → WideSlots e.body.max_locals o → WideSlots e.body.max_locals (taken_by e x o)
  by_place None o k f q = absurd (cc)
  by_place (Some x) o k f q = taken_wide x.pc o k f q

  passed_wide : (x : Option Placed) (o : Option Slots) → WideSlots e.body.max_locals o → WideSlots e.body.max_locals (passed_on p e o x)
  passed_wide x None k f q = absurd (cc)
  passed_wide None (Some g) k f q = absurd (cc)
  passed_wide (Some x) (Some g) k f q = at (sides p e x.pc g x.form).falls q
    where
      at : (b : Bool) → cond b (Some (after g (sides p e x.pc g x.form))) None ≡ Some f → e.body.max_locals ≤ length f.locals
      at true q =
          let z : after g (sides p e x.pc g x.form) ≡ f = cc in
          let s = sides p e x.pc g x.form in
          subst (λ (y : Slots). e.body.max_locals ≤ length y.locals) z (subst (λ (n : ℕ). e.body.max_locals ≤ n) (sym (set_length s.sets (turned s.turn g.locals) ∙ turned_length s.turn g.locals)) (k g refl))
      at false q = absurd (cc)

  incoming_wide : (k : ℕ) → WideSlots e.body.max_locals (incoming p e k)
  unfolding incoming
  incoming_wide zero f q = let z : opening e ≡ f = cc in subst (λ (y : Slots). e.body.max_locals ≤ length y.locals) z (padded_wide e.body.max_locals e.args)
  incoming_wide (suc k) f q = passed_wide (slice_get e.body.code k) (taken_by e (slice_get e.body.code k) (incoming p e k)) (by_place (slice_get e.body.code k) (incoming p e k) (incoming_wide k)) f q

pub wide_before : (p : Program) (m : MethodRec) (b : Body) (gs : List Frame) → m.body ≡ Some b → given_frames p m ≡ Some gs → (k pc : ℕ) (f : Slots) → before p (environment_of p m b gs) k pc ≡ Some f → b.max_locals ≤ length f.locals
wide_before p m b gs h g k pc f q = taken_wide p (environment_of p m b gs) (given_wide p m b gs h g) pc (incoming p (environment_of p m b gs) k) (incoming_wide p (environment_of p m b gs) (given_wide p m b gs h g) k) f q
