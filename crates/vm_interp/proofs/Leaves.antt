-- What holds of each answer that a program of accesses may come to.
use Rattle.std.proofs.Common.{ℕ, Bool, true, false, cond}
use Rattle.jvm_model.specs.World.{World, Content, at, put, size, make_object}
use Rattle.jvm_model.specs.Access.{Access, done, read, write, make, spend, bind, run}

abbrev pub Each : {A : Type 0} → (A → Type 0) → Access A → Type 0
Each P (done a) = P a
Each P (read l k) = (c : Content l) → Each P (k c)
Each P (write l c t) = Each P t
Each P (make x k) = (o : ℕ) → Each P (k o)
Each P (spend n t) = Each P t

pub each_run : {A : Type 0} (P : A → Type 0) (t : Access A) (w : World) → Each P t → P (run t w).value
each_run P (done a) w h = h
each_run P (read l k) w h = each_run P (k (at w l)) w (h (at w l))
each_run P (write l c t) w h = each_run P t (put w l c) h
each_run P (make x k) w h = each_run P (k (size w)) (make_object w x) (h (size w))
each_run P (spend n t) w h = each_run P t w h

pub each_bind : {A B : Type 0} (P : B → Type 0) (t : Access A) (k : A → Access B) → ((a : A) → Each P (k a)) → Each P (bind t k)
each_bind P (done a) k f = f a
each_bind P (read l n) k f = λ c. each_bind P (n c) k f
each_bind P (write l c t) k f = each_bind P t k f
each_bind P (make x n) k f = λ o. each_bind P (n o) k f
each_bind P (spend n t) k f = each_bind P t k f

pub each_either : {A : Type 0} (P : A → Type 0) (b : Bool) (t u : Access A) → Each P t → Each P u → Each P (cond b t u)
each_either P true t u g h = g
each_either P false t u g h = h
