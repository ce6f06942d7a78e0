-- Lists that are read item by item.
use Rattle.std.proofs.Common.{◌≡◌, ℕ, List, [], ◌∷◌, ◌++◌, Option, Some, None, refl, ap, sym, ◌∙◌, length, ◌<◌, ◌≤◌, ◌-◌, ◌+◌, replicate, arith}
use Rattle.std.proofs.lemmas.List.{append_assoc, append-nil, length_push, replicate-append-replicate}
use Rattle.type_frames.specs.{declared.vtype.VType.VType, declared.vtype.VType.TheVariants.Top, MapReading.prefixed, Frames.padded}

pub prefixed_nothing : {A : Type 0} (o : Option (List A)) → prefixed [] o ≡ o
prefixed_nothing None = refl
prefixed_nothing (Some xs) = refl

pub padded_push : (n : ℕ) (ts : List VType) → length ts < n → padded n (ts ++ Top ∷ []) ≡ padded n ts
padded_push n ts lt =
    let e : n - length ts ≡ 1 + (n - (length ts + 1)) = omega arith in
    append_assoc ts (Top ∷ []) _ ∙ ap (λ k. ts ++ (Top ∷ [] ++ replicate (n - k) Top)) (length_push ts Top) ∙ ap (λ us. ts ++ us) (sym (ap (λ k. replicate k Top) e ∙ sym (replicate-append-replicate 1 (n - (length ts + 1)) Top)))

pub padded_full : (n : ℕ) (ts : List VType) → n ≤ length ts → padded n ts ≡ ts
padded_full n ts le = let e : n - length ts ≡ 0 = omega arith in ap (λ k. ts ++ replicate k Top) e ∙ append-nil ts
