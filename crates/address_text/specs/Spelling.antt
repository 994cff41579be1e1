-- What is shown of the text of an address (S14.9): reading it gives the address back, it is one for all spellings of an address, and it is short.
use Rattle.std.specs.Prelude.{ℕ, ◌≤◌, ◌≡◌, List, ◌↔◌, length, take, Some, Ok}
use Rattle.octets.specs.Number.{Bytes}
use Rattle.ip.specs.Ip.{address_of}
use Rattle.ip_text.specs.Text.{text_of}
use Rattle.address_text.specs.Call.{written_of, text_after}

pub record WrittenForm : Type 0 where
  -- by `address_of`, the definition that reads paths
  pub ipv4-back : (a : List ℕ) → Bytes a → length a ≡ 4 → address_of (text_of a) ≡ Some a
  pub ipv6-back : (a : List ℕ) → Bytes a → length a ≡ 16 → address_of (text_of a) ≡ Some a
  -- what the call wrote to a buffer
  pub written_back : (a text : List ℕ) (n : ℕ) → Bytes a → written_of a (length text) ≡ Ok n → address_of (take n (text_after a text)) ≡ Some a
  -- two texts that read as addresses have the same written form exactly if they read as the same address
  pub spellings : (s t a b : List ℕ) → address_of s ≡ Some a → address_of t ≡ Some b → (text_of a ≡ text_of b) ↔ (a ≡ b)
  -- the most bytes
  pub ipv4-most : (a : List ℕ) → Bytes a → length a ≡ 4 → length (text_of a) ≤ 15
  pub ipv6-most : (a : List ℕ) → Bytes a → length a ≡ 16 → length (text_of a) ≤ 39
