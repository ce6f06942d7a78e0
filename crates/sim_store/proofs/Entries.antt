-- Look-ups and changes of a map's entries, seen as names with their texts.
use Rattle.std.proofs.Common.{◌≡◌, ℕ, Bool, cond, nat_eq, List, [], ◌∷◌, map, Option, None, Some, is_some, ◌||◌, refl, sym, ap, ◌∙◌, true, false, Bor, MatchOption, option_copied}
use Rattle.std.specs.{Cmp.Lexicographic.pointwise, List.list_any, Map.lookup, Option.option_flatten, Str.bytes_eq}
use Rattle.std.specs.declared.{vec.Vec.Vec, alloc.Global.Global}
use Rattle.indexmap.specs.IndexMap.{insert_entry}
use Rattle.jvm_model.specs.World.{look, keep}
use Rattle.sim_store.specs.Stored.{named}

abbrev pub Entry : Type 0
Entry = Vec ℕ Global × Option (List ℕ)

flat_cond : {A : Type 0} (b : Bool) (x : Option A) (y : Option (Option A)) → cond b x (option_flatten y) ≡ option_flatten (cond b (Some x) y)
flat_cond true x y = refl
flat_cond false x y = refl

map_cond : {A B : Type 0} (f : A → B) (b : Bool) (xs ys : List A) → map f (cond b xs ys) ≡ cond b (map f xs) (map f ys)
map_cond f true xs ys = refl
map_cond f false xs ys = refl

-- what stands at a name is what the map holds at its key
pub look_named : (n : List ℕ) (es : List Entry) → look bytes_eq None (map named es) n ≡ option_flatten (lookup (λ k. pointwise nat_eq n k.items) es)
look_named n [] = refl
look_named n (x ∷ xs) = ap (cond (bytes_eq n x.0.items) x.1) (look_named n xs) ∙ flat_cond (bytes_eq n x.0.items) x.1 (lookup (λ k. pointwise nat_eq n k.items) xs)

-- an entry that is put is kept at its name
pub keep_named : (es : List Entry) (k : Vec ℕ Global) (v : Option (List ℕ)) → map named (insert_entry (λ a b. pointwise nat_eq a.items b.items) es k v) ≡ keep bytes_eq (map named es) k.items v
keep_named [] k v = refl
keep_named (x ∷ xs) k v =
    map_cond named (bytes_eq k.items x.0.items) ((x.0, v) ∷ xs) (x ∷ insert_entry (λ a b. pointwise nat_eq a.items b.items) xs k v)
    ∙ ap (λ t. cond (bytes_eq k.items x.0.items) ((x.0.items, v) ∷ map named xs) (named x ∷ t)) (keep_named xs k v)

-- a lent content, as the clauses say it
pub lent : {A : Type 0} (r : Option (Bor A)) (o p : Option A) → option_copied r ≡ o → p ≡ o → MatchOption r (p ≡ None) (λ t. p ≡ Some t.now)
lent None o p e h = h ∙ sym e
lent (Some t) o p e h = h ∙ sym e

some_cond : {A : Type 0} (b : Bool) (x : A) (y : Option A) → (b || is_some y) ≡ is_some (cond b (Some x) y)
some_cond true x y = refl
some_cond false x y = refl

-- a name that came is a key of the map
pub any_named : (n : List ℕ) (es : List Entry) → list_any (λ e. bytes_eq n e.0) (map named es) ≡ is_some (lookup (λ k. pointwise nat_eq n k.items) es)
any_named n [] = refl
any_named n (x ∷ xs) = ap (λ b. bytes_eq n x.0.items || b) (any_named n xs) ∙ some_cond (bytes_eq n x.0.items) x.1 (lookup (λ k. pointwise nat_eq n k.items) xs)
