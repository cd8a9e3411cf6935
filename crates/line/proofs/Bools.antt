-- Tests that are true for the same reasons are equal, and the two ways into an or. Assumes nothing.
use mathlib.Core.Path.{◌≡◌, refl}
use mathlib.Core.Bool.{Bool, true, false, ◌||◌}
use lib.Dec.{T}

pub bool_ext : (a b : Bool) → (T a → T b) → (T b → T a) → a ≡ b
bool_ext true true h k = refl
bool_ext false false h k = refl
bool_ext true false h k = absurd (h tt)
bool_ext false true h k = absurd (k tt)

pub or_l : (a b : Bool) → T a → T (a || b)
or_l true b t = tt
or_l false b t = absurd t

pub or_r : (a b : Bool) → T b → T (a || b)
or_r true b t = tt
or_r false b t = t

pub or_e : {A : Type 0} (a b : Bool) → (T a → A) → (T b → A) → T (a || b) → A
or_e true b h k t = h tt
or_e false b h k t = k t
