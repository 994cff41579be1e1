-- Boolean tests as facts, and the list functions of specs/Lists.antt.
use mathlib.Core.Bool.{Bool, true, false, not, ◌&&◌, ◌||◌}
use mathlib.Core.Logic.{◌⊎◌, inl, inr, ◌↔◌}
use mathlib.Core.Path.{◌≡◌, refl, sym, subst}
use mathlib.Core.List.Memᴰ
use mathlib.Core.List.{List, [], ◌∷◌}
use lib.Dec.{T, T_not, not_T}
use Rattle.octets.specs.Lists.{◌∈◌, any}

pub T_and : (a b : Bool) → T (a && b) ↔ (T a × T b)
T_and true b = (λ t. (tt, t), λ t. t.1)
T_and false b = (λ t. absurd t, λ t. t.0)

pub T_or : (a b : Bool) → T (a || b) → T a ⊎ T b
T_or true b t = inl tt
T_or false b t = inr t

pub or_left : (a b : Bool) → T a → T (a || b)
or_left true b t = tt
or_left false b t = absurd t

pub or_right : (a b : Bool) → T b → T (a || b)
or_right true b t = tt
or_right false b t = t

pub test : (b : Bool) → T b ⊎ T (not b)
test true = inl tt
test false = inr tt

pub is_true : (b : Bool) → T b → b ≡ true
is_true true t = refl
is_true false t = absurd t

pub is_false : (b : Bool) → (T b → ⊥) → b ≡ false
is_false true f = absurd (f tt)
is_false false f = refl

pub same_test : (a b : Bool) → (T a → T b) → (T b → T a) → a ≡ b
same_test true b f g = sym (is_true b (f tt))
same_test false b f g = sym (is_false b g)

module _ {A : Type 0} (p : A → Bool) where
  pub any-yes : (xs : List A) → T (any p xs) → (x : A) × (x ∈ xs) × T (p x)
  any-yes [] t = absurd t
  any-yes (x ∷ xs) t = go (T_or (p x) (any p xs) t) (λ s. any-yes xs s)
    where
      go : T (p x) ⊎ T (any p xs) → (T (any p xs) → (y : A) × (y ∈ xs) × T (p y)) → (y : A) × (y ∈ (x ∷ xs)) × T (p y)
      go (inl s) rest = (x, Memᴰ.head refl, s)
      go (inr s) rest = let r = rest s in (r.0, Memᴰ.tail r.1, r.2)

  pub yes-any : {x : A} {xs : List A} → x ∈ xs → T (p x) → T (any p xs)
  yes-any (Memᴰ.head {x = y} {xs = ys} e) t = or_left (p y) (any p ys) (subst (λ z. T (p z)) e t)
  yes-any (Memᴰ.tail {x = y} {xs = ys} m) t = or_right (p y) (any p ys) (yes-any m t)

-- what holds of the head and of each later element
pub each : {A : Type 0} (P : A → Type 0) {x : A} {xs : List A} → P x → ((c : A) → c ∈ xs → P c) → (c : A) → c ∈ (x ∷ xs) → P c
each P h rest c (Memᴰ.head e) = subst P (sym e) h
each P h rest c (Memᴰ.tail m) = rest c m

-- the shape of isBest: x holds, and no element passes both f and g
pub none_such :
    {A : Type 0} (x : Bool) (f g : A → Bool) (xs : List A)
    → T (x && not (any (λ c. f c && g c) xs)) ↔ (T x × ((c : A) → c ∈ xs → T (f c) → T (g c) → ⊥))
none_such x f g xs = (
  λ t.
      let s = (T_and x (not (any (λ c. f c && g c) xs))).0 t in
      (s.0, λ c m tf tg. T_not (any (λ c. f c && g c) xs) s.1 (yes-any (λ c. f c && g c) m ((T_and (f c) (g c)).1 (tf, tg)))),
  λ s.
      (T_and x (not (any (λ c. f c && g c) xs))).1 (
        s.0,
        not_T (any (λ c. f c && g c) xs) λ t.
            let r = any-yes (λ c. f c && g c) xs t in
            let both = (T_and (f r.0) (g r.0)).0 r.2 in
            s.1 r.0 r.1 both.0 both.1,
      ),
)
