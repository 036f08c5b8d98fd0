-- What is asked of operations where a formula is compared: they are those of a commutative ring. Whole numbers have them, and so have fractions
-- and real numbers; rounded operations have not.
use Rattle.std.specs.Prelude.{◌≡◌}
use Rattle.ring.specs.Ops.{Ops}

pub record CommutativeRing {A : Type 0} (o : Ops A) : Type 0 where
  pub add_assoc : (a b c : A) → o.◌+◌ (o.◌+◌ a b) c ≡ o.◌+◌ a (o.◌+◌ b c)
  pub add_comm : (a b : A) → o.◌+◌ a b ≡ o.◌+◌ b a
  pub add-zero : (a : A) → o.◌+◌ a o.zero ≡ a
  pub add-neg : (a : A) → o.◌+◌ a (o.neg a) ≡ o.zero
  pub subtract : (a b : A) → o.◌-◌ a b ≡ o.◌+◌ a (o.neg b)
  pub mul_assoc : (a b c : A) → o.◌*◌ (o.◌*◌ a b) c ≡ o.◌*◌ a (o.◌*◌ b c)
  pub mul_comm : (a b : A) → o.◌*◌ a b ≡ o.◌*◌ b a
  pub mul-one : (a : A) → o.◌*◌ a o.one ≡ a
  pub mul-add : (a b c : A) → o.◌*◌ a (o.◌+◌ b c) ≡ o.◌+◌ (o.◌*◌ a b) (o.◌*◌ a c)
  pub two-ones : o.two ≡ o.◌+◌ o.one o.one

-- a factor that can be divided out
abbrev pub Cancels : {A : Type 0} → Ops A → A → Type 0
Cancels {A} o a = (b : A) → o.◌*◌ a b ≡ o.zero → b ≡ o.zero
