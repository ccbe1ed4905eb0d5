-- The words of a script, as lists of bytes.
use Rattle.std.specs.Prelude.{ℕ, ◌≡◌, ◌≢◌, ◌≤◌, ◌||◌, Bool, true, List, length, slice_index}
use Rattle.std.specs.Char.{is_ascii_lowercase, is_ascii_digit}
use Rattle.std.specs.List.{AllPass}

-- `a` to `z`, or `0` to `9`
abbrev pub is_word_byte : ℕ → Bool
is_word_byte b = is_ascii_lowercase b || is_ascii_digit b

-- the bytes are a word of 1 to `most` letters and digits
pub record IsWord (most : ℕ) (word : List ℕ) : Type 0 where
  -- it has a byte
  pub not_empty : 1 ≤ length word
  -- it has at most `most` bytes
  pub short : length word ≤ most
  -- each byte is a lowercase letter or a digit
  pub letters_and_digits : AllPass is_word_byte word

-- the word is a name
pub record IsName (word : List ℕ) : Type 0 where
  -- it is a word of at most 16 bytes
  pub short_word : IsWord 16 word
  -- its first byte is a lowercase letter
  pub letter_first : is_ascii_lowercase (slice_index word 0) ≡ true

-- the word has neither a plus sign nor leading zeros
pub record IsPlain (word : List ℕ) : Type 0 where
  -- it has a byte
  pub not_empty : 1 ≤ length word
  -- its first byte is not `+`
  pub unsigned : slice_index word 0 ≢ 43
  -- if its first byte is `0`, it has no other byte
  pub no_leading_zero : slice_index word 0 ≡ 48 → length word ≡ 1
