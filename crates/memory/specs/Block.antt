-- Bytes in blocks of 512: 63 doublewords and then the block's check, all little-endian.
use Rattle.std.specs.Prelude.{ℕ, zero, suc, ◌+◌, ◌*◌, ◌/◌, ◌%◌, ◌^◌, Bool, cond, List, [], ◌∷◌, ◌++◌, map, length, take, drop, Some, None, Ok, Err, Option, Result, ◌==◌, bit_or, bit_xor, nat_lt, slice_index}
use Rattle.std.specs.List.{range_with_len}
use Rattle.memory.specs.declared.blocks.Damage.{Damage}
use Rattle.memory.specs.declared.blocks.Damage.TheVariants.{NotWhole, WrongCheck}

-- the number that bytes stand for, the lowest byte first
abbrev pub little : List ℕ → ℕ
little [] = 0
little (b ∷ bs) = b + 256 * little bs

-- count bytes from at on
abbrev pub bytes_from : List ℕ → ℕ → ℕ → List ℕ
bytes_from bytes at zero = []
bytes_from bytes at (suc count) = slice_index bytes at ∷ bytes_from bytes (at + 1) count

-- the doubleword that begins at byte at
unfoldable pub word_at : List ℕ → ℕ → ℕ
word_at bytes at = little (bytes_from bytes at 8)

-- the eight bytes of a doubleword
unfoldable pub bytes_of : ℕ → List ℕ
bytes_of value = map (λ k. value / 256 ^ k % 256) (range_with_len 0 8)

-- bytes with others written over them from at on
unfoldable pub put : List ℕ → ℕ → List ℕ → List ℕ
put bytes at others = take at bytes ++ (others ++ drop (at + length others) bytes)

-- doubleword n as its block and its place there
abbrev pub located : ℕ → ℕ × ℕ
located n = (n / 63, n % 63)

-- the byte where a place of a block begins; a block's place 63 is its check
abbrev pub byte_of : ℕ → ℕ → ℕ
byte_of block place = 512 * block + 8 * place

-- the byte where doubleword n begins
abbrev pub start_of : ℕ → ℕ
start_of n = byte_of (n / 63) (n % 63)

-- how many whole blocks there are
abbrev pub blocks_in : List ℕ → ℕ
blocks_in bytes = length bytes / 512

-- the list of doublewords that bytes hold
abbrev pub cells_of : List ℕ → List ℕ
cells_of bytes = map (λ n. word_at bytes (start_of n)) (range_with_len 0 (blocks_in bytes * 63))

-- 64 bits rotated left by 5
abbrev pub rotated : ℕ → ℕ
rotated c = bit_or (c * 32 % 2 ^ 64) (c / 2 ^ 59)

-- the check of a block over its first places: it starts as the block's number and one; for each doubleword it is
-- rotated, then XORed with that doubleword
unfoldable pub check_up_to : List ℕ → ℕ → ℕ → ℕ
check_up_to bytes block zero = block + 1
check_up_to bytes block (suc place) = bit_xor (rotated (check_up_to bytes block place)) (word_at bytes (byte_of block place))

abbrev pub check_for : List ℕ → ℕ → ℕ
check_for bytes block = check_up_to bytes block 63

-- the check that stands in a block is the one that its doublewords ask for
abbrev pub sound : List ℕ → ℕ → Bool
sound bytes block = word_at bytes (byte_of block 63) == check_for bytes block

-- bytes with a block's check renewed
abbrev pub renewed : List ℕ → ℕ → List ℕ
renewed bytes block = put bytes (byte_of block 63) (bytes_of (check_for bytes block))

-- bytes with doubleword n and its block's check new, and every other byte as it was
abbrev pub stored : List ℕ → ℕ → ℕ → List ℕ
stored bytes n value = renewed (put bytes (start_of n) (bytes_of value)) (n / 63)

-- what the bytes are after a write of n: past the end, a write changes nothing
abbrev pub written : List ℕ → ℕ → ℕ → List ℕ
written bytes n value =
    cond (nat_lt n (blocks_in bytes * 63)) (stored bytes n value) bytes

-- the lowest block with a wrong check, of count blocks from block on
abbrev pub lowest_wrong : List ℕ → ℕ → ℕ → Option ℕ
lowest_wrong bytes block zero = None
lowest_wrong bytes block (suc count) =
    cond (sound bytes block) (lowest_wrong bytes (block + 1) count) (Some block)

-- there are bytes, and they are whole blocks
abbrev pub empty : List ℕ → Bool
empty bytes = length bytes == 0

abbrev pub whole : List ℕ → Bool
whole bytes = length bytes % 512 == 0

abbrev pub verdict : Option ℕ → Result (Unit {0}) Damage
verdict None = Ok tt
verdict (Some block) = Err (WrongCheck block)

-- the look-over: first whether the bytes are whole blocks, then the checks from block 0 on
abbrev pub look_over : List ℕ → Result (Unit {0}) Damage
look_over bytes =
    cond (empty bytes) (Err (NotWhole (length bytes)))
    (cond (whole bytes) (verdict (lowest_wrong bytes 0 (blocks_in bytes))) (Err (NotWhole (length bytes))))

-- the number of each damage, and what it tells: the count of bytes, or the block
abbrev pub damage_number : Damage → ℕ
damage_number (NotWhole bytes) = 2
damage_number (WrongCheck block) = 3
