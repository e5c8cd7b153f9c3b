-- What the private functions that write promise each other: no public contract cites it, so there is nothing here to believe. Assumes nothing.
use Rattle.std.specs.Prelude.{◌≡◌, List, [], ◌∷◌, ℕ, ◌+◌, ◌*◌, ◌/◌, ◌%◌, ◌^◌, ◌≤◌, ◌<◌, length, get_or, take, drop, Result}
use Rattle.refusals.specs.Outcome.{if_accepted}
use Rattle.refusals.specs.Told.{told_length}
use Rattle.refusals.specs.Units.{words_for}
use Rattle.refusals.specs.declared.Refusal.{Refusal}
use Rattle.refusals.specs.declared.units.StreamLength.{StreamLength}
use Rattle.books.specs.Book.{length_in, codeword_in}
use Rattle.streams.specs.Stream.{number}
use Rattle.streams.specs.Codes.{Code, total, pack, zeros_one}
use Rattle.streams.specs.Calls.{written_if, words_into}
use Rattle.compression.specs.declared.writer.Writer.{Writer}

-- ---- the bit writer

-- a 32-bit word, lowest byte first
abbrev pub four_bytes : ℕ → List ℕ
four_bytes w = w % 0x100 ∷ w / 0x100 % 0x100 ∷ w / 0x1_0000 % 0x100 ∷ w / 0x100_0000 % 0x100 ∷ []

-- how many bits have been put
abbrev pub bits_put : Writer → ℕ
bits_put w = 8 * w.next + w.held

-- the stream so far, as one number: the bytes written, and above them the buffer
abbrev pub so_far : List ℕ → Writer → ℕ
so_far out w = number (take w.next out) + w.buffer * 2 ^ (8 * w.next)

-- whole words are written, and the buffer holds less than a word
pub record Lawful (out : List ℕ) (w : Writer) : Type 0 where
  pub few : w.held < 32
  pub small : w.buffer < 2 ^ w.held
  pub whole : w.next % 4 ≡ 0
  pub inside : w.next ≤ length out

-- the value stands above the stream so far, and what lies past the bytes written is as it was
pub record PutBy (out out' : List ℕ) (w w' : Writer) (value count : ℕ) : Type 0 where
  pub lawful : Lawful out' w'
  pub sum : bits_put w' ≡ bits_put w + count
  pub stream : so_far out' w' ≡ so_far out w + value * 2 ^ bits_put w
  pub rest : drop w'.next out' ≡ drop w'.next out
  pub size : length out' ≡ length out
  pub on : w.next ≤ w'.next

-- the last bits filled up with zeros to a whole word: the bytes from the front make the stream, and the rest is as it was
pub record FinishedBy (out out' : List ℕ) (w : Writer) (bytes : ℕ) : Type 0 where
  pub words : bytes ≡ (bits_put w + 31) / 32 * 4
  pub stream : number (take bytes out') ≡ so_far out w
  pub rest : drop bytes out' ≡ drop bytes out
  pub size : length out' ≡ length out

-- zeros after the stream, and the last word: the bits and the words are told
pub record ClosedBy (out out' : List ℕ) (w : Writer) (pad : ℕ) (long : StreamLength) : Type 0 where
  pub bits : long.bits.0 ≡ bits_put w + pad
  pub words : long.words.0 ≡ words_for (bits_put w + pad)
  pub stream : number (take (4 * words_for (bits_put w + pad)) out') ≡ so_far out w
  pub rest : drop (4 * words_for (bits_put w + pad)) out' ≡ drop (4 * words_for (bits_put w + pad)) out
  pub size : length out' ≡ length out
  pub bytes : (i : ℕ) → get_or out' i 0 < 256

-- codes put one above the other
abbrev pub PutsBy : List ℕ → List ℕ → Writer → Writer → List Code → Type 0
PutsBy out out' w w' codes = PutBy out out' w w' (pack codes) (total codes)

-- ---- pairs

-- the code of a book's entry
abbrev pub entry_code : ℕ → Code
entry_code entry = record { value = codeword_in entry; count = length_in entry }

-- the codes of a pair, from its entry, how many zeros, and its low bits
abbrev pub part_codes : ℕ → ℕ → ℕ → ℕ → List Code
part_codes entry zeros b low = entry_code entry ∷ zeros_one zeros ∷ record { value = low; count = b } ∷ []

-- ---- what is written

-- 5; or the answer has the bits and the words, and the words stand at the front
pub record LastBy (codes : List Code) (bits : ℕ) (out out' : List ℕ) (answer : Result StreamLength Refusal) : Type 0 where
  pub says : told_length answer ≡ written_if bits out
  pub leaves : out' ≡ if_accepted (written_if bits out) (words_into codes bits out) out
