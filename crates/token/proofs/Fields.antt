-- A packed token gives its fields back, where each fits: so a column of tokens says what the lent columns say.
-- Assumes nothing.
use Prim.Native.Nat.{ℕ, ◌<◌}
use mathlib.Core.Path.{◌≡◌}
use native.Mathlib.Omega.{arith}
use Rattle.token.specs.Token.{scalar_of, kind_of, break_of, category_of, emoji_of, selector_of, index_of, packed}

module _ (scalar kind brk category emoji selector index : ℕ) where
  pub scalar_packed : scalar < 0x20_0000 → scalar_of (packed scalar kind brk category emoji selector index) ≡ scalar
  scalar_packed h = omega arith

  pub kind_packed : kind < 64 → kind_of (packed scalar kind brk category emoji selector index) ≡ kind
  kind_packed h = omega arith

  pub break_packed : brk < 16 → break_of (packed scalar kind brk category emoji selector index) ≡ brk
  break_packed h = omega arith

  pub category_packed : category < 4 → category_of (packed scalar kind brk category emoji selector index) ≡ category
  category_packed h = omega arith

  pub emoji_packed : emoji < 2 → emoji_of (packed scalar kind brk category emoji selector index) ≡ emoji
  emoji_packed h = omega arith

  pub selector_packed : selector < 2 → selector_of (packed scalar kind brk category emoji selector index) ≡ selector
  selector_packed h = omega arith

  pub index_packed : index < 4096 → index_of (packed scalar kind brk category emoji selector index) ≡ index
  index_packed h = omega arith

-- what a token says, all at once
pub record Says (token scalar kind brk category emoji selector index : ℕ) : Type 0 where
  pub its_scalar : scalar_of token ≡ scalar
  pub its_kind : kind_of token ≡ kind
  pub its_break : break_of token ≡ brk
  pub its_category : category_of token ≡ category
  pub its_emoji : emoji_of token ≡ emoji
  pub its_selector : selector_of token ≡ selector
  pub its_index : index_of token ≡ index

pub packed_says : (scalar kind brk category emoji selector index : ℕ) → scalar < 0x20_0000 → kind < 64 → brk < 16 → category < 4 → emoji < 2 → selector < 2 → index < 4096 → Says (packed scalar kind brk category emoji selector index) scalar kind brk category emoji selector index
packed_says x k b c e s i hx hk hb hc he hs hi =
    record {
      its_scalar = scalar_packed x k b c e s i hx;
      its_kind = kind_packed x k b c e s i hk;
      its_break = break_packed x k b c e s i hb;
      its_category = category_packed x k b c e s i hc;
      its_emoji = emoji_packed x k b c e s i he;
      its_selector = selector_packed x k b c e s i hs;
      its_index = index_packed x k b c e s i hi;
    }
