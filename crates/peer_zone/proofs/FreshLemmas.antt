-- The words of a record, a list and a context that are fresh.
use Rattle.std.proofs.Common.{ℕ, zero, suc, ◌≡◌, ◌+◌, ◌/◌, ◌<◌, ◌≤◌, ◌∙◌, sym, ap, subst, refl, inl, Bool, true, false, List, [], ◌∷◌, length, get_or, zero-add, arith, lit<, w64}
use Rattle.std.specs.Int.{cast_signed, from_bool}
use Rattle.zone_region.specs.Words.{Words, word_at}
use Rattle.block_bytes.specs.Bytes.{HoldsBytes, PutsBytes}
use Rattle.peer_zone.specs.declared.calls.Method.{Method}
use Rattle.peer_zone.specs.declared.calls.Server.{Server}
use Rattle.peer_zone.specs.Records.{fresh_record}
use Rattle.peer_zone.specs.Words.{word_of_bool, HoldsRecord}
use Rattle.peer_zone.specs.CallSteps.{WritesWords}
use Rattle.peer_zone.specs.Layout.{HasZeros, HoldsList, HoldsContext, word_of_method}

pub as_word : (b : Bool) → from_bool b ≡ word_of_bool b
as_word true = refl
as_word false = refl

-- the numbers of a record and the length of its address, as words
abbrev pub record_words : ℕ → ℕ → ℕ → Server → List ℕ
record_words next down long server = next ∷ server.weight ∷ server.weight ∷ 0 ∷ 0 ∷ server.max_conns ∷ 0 ∷ server.max_fails ∷ server.fail_timeout ∷ 0 ∷ 0 ∷ down ∷ long ∷ []

pub record-written : (old mid new : Words) (at next down : ℕ) (server : Server) (address : List ℕ) → 13 + (length server.address + 7) / 8 ≤ length (old at) → address ≡ server.address → down ≡ from_bool server.down
    → WritesWords old mid at 0 (record_words next down (length address) server) → PutsBytes mid new at 13 address → HoldsRecord new at next (fresh_record server)
record-written old mid new at next down server address room is down_is w p =
    let there : (i : ℕ) → i < 13 → word_at new at i ≡ word_at mid at i = λ i low. p.outside i (inl low) in
    record {
      room = omega (arith, room, w.lengths at, p.lengths at);
      next_is = there 0 (lit< tt) ∙ w.written 0 (lit< tt);
      numbers = record {
        weight = there 1 (lit< tt) ∙ w.written 1 (lit< tt);
        effective = there 2 (lit< tt) ∙ w.written 2 (lit< tt);
        current = ap (λ x. cast_signed w64 x) (there 3 (lit< tt) ∙ w.written 3 (lit< tt));
        conns = there 4 (lit< tt) ∙ w.written 4 (lit< tt);
        max_conns = there 5 (lit< tt) ∙ w.written 5 (lit< tt);
        fails = there 6 (lit< tt) ∙ w.written 6 (lit< tt);
        max_fails = there 7 (lit< tt) ∙ w.written 7 (lit< tt);
        fail_timeout = there 8 (lit< tt) ∙ w.written 8 (lit< tt);
        checked = there 9 (lit< tt) ∙ w.written 9 (lit< tt);
        accessed = there 10 (lit< tt) ∙ w.written 10 (lit< tt);
        down = there 11 (lit< tt) ∙ w.written 11 (lit< tt) ∙ down_is ∙ as_word server.down;
      };
      address_length = there 12 (lit< tt) ∙ w.written 12 (lit< tt) ∙ ap (λ (bytes : List ℕ). length bytes) is;
      address = subst (λ (bytes : List ℕ). HoldsBytes new at 13 bytes) is p.held;
    }

-- ---- eight words, of which the last five are 0

abbrev five : List ℕ
five = 0 ∷ 0 ∷ 0 ∷ 0 ∷ 0 ∷ []

five_zeros : (i : ℕ) → get_or five i 0 ≡ 0
five_zeros zero = refl
five_zeros (suc zero) = refl
five_zeros (suc (suc zero)) = refl
five_zeros (suc (suc (suc zero))) = refl
five_zeros (suc (suc (suc (suc zero)))) = refl
five_zeros (suc (suc (suc (suc (suc i))))) = refl

zeros_behind : (a b c i : ℕ) → 3 ≤ i → get_or (a ∷ b ∷ c ∷ 0 ∷ 0 ∷ 0 ∷ 0 ∷ 0 ∷ []) i 0 ≡ 0
zeros_behind a b c zero low = absurd (omega (arith, low))
zeros_behind a b c (suc zero) low = absurd (omega (arith, low))
zeros_behind a b c (suc (suc zero)) low = absurd (omega (arith, low))
zeros_behind a b c (suc (suc (suc i))) low = five_zeros i

zeros-written : (old new : Words) (at a b c : ℕ) → WritesWords old new at 0 (a ∷ b ∷ c ∷ 0 ∷ 0 ∷ 0 ∷ 0 ∷ 0 ∷ []) → HasZeros new at 3
zeros-written old new at a b c w i low high = ap (λ (j : ℕ). word_at new at j) (sym (zero-add i)) ∙ w.written i high ∙ zeros_behind a b c i low

pub list-written : (old new : Words) (at first servers word : ℕ) (single : Bool) → 8 ≤ length (old at) → word ≡ from_bool single → WritesWords old new at 0 (first ∷ servers ∷ word ∷ 0 ∷ 0 ∷ 0 ∷ 0 ∷ 0 ∷ []) → HoldsList new at first servers single
list-written old new at first servers word single room is w = record {
  room = omega (arith, room, w.lengths at);
  first_is = w.written 0 (lit< tt);
  count = w.written 1 (lit< tt);
  single_is = w.written 2 (lit< tt) ∙ is ∙ as_word single;
  zeros = zeros-written old new at first servers word w;
}

pub context-written : (old new : Words) (at primary backup word : ℕ) (method : Method) → 8 ≤ length (old at) → word ≡ word_of_method method → WritesWords old new at 0 (primary ∷ backup ∷ word ∷ 0 ∷ 0 ∷ 0 ∷ 0 ∷ 0 ∷ []) → HoldsContext new at primary backup method
context-written old new at primary backup word method room is w = record {
  room = omega (arith, room, w.lengths at);
  primary_is = w.written 0 (lit< tt);
  backup_is = w.written 1 (lit< tt);
  method_is = w.written 2 (lit< tt) ∙ is;
  zeros = zeros-written old new at primary backup word w;
}
