-- The chain of a key.
use Rattle.std.proofs.Common.{◌≡◌, ◌≢◌, ℕ, ◌+◌, ◌*◌, ◌%◌, ◌<◌, ◌≤◌, List, [], ◌∷◌, length, refl, sym, ap, arith}
use Rattle.kv_offload.specs.declared.layout.TheConstants.{HEADS}
use Rattle.kv_offload.specs.Layout.{hash_on, hash_of, head_of}

pub head_is : (key : List ℕ) (hash : ℕ) → 1 ≤ length key → hash_on 0 key ≡ hash → 1 + hash ≡ head_of key
unfolding hash_of
head_is [] hash some is = absurd (omega arith)
head_is (byte ∷ bytes) hash some is = ap (λ h. 1 + h) (sym is)

hash_below : (hash : ℕ) (key : List ℕ) → hash < 1024 → hash_on hash key < 1024
hash_below hash [] less = less
hash_below hash (byte ∷ bytes) less = hash_below ((hash * 31 + byte) % 1024) bytes (omega arith)

-- a key's chain is one of those of the keys
pub head_below : (key : List ℕ) → head_of key < HEADS
unfolding hash_of
head_below [] = omega arith
head_below (byte ∷ bytes) = let h = hash_below 0 (byte ∷ bytes) (omega arith) in omega (arith, h)

pub head_some : (key : List ℕ) → key ≢ [] → 1 ≤ head_of key
head_some [] some = absurd (some refl)
head_some (byte ∷ bytes) some = omega arith

pub key_some : (key : List ℕ) → 1 ≤ length key → key ≢ []
key_some key some e = let z : length key ≡ 0 = ap length e in omega (arith, z)
