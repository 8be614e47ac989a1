-- Names every definition of the crate that computes: a proof that says `unfolding text_opened` computes with them all.
-- Assumes nothing.
use Rattle.call_text.specs.Words.{begins, is_digit, decimal_to, is_number, hex_digit, is_hex, hex_to, is_hex_word, hex_byte, is_bytes, bytes_of}
use Rattle.call_text.specs.Known.{says, said, known_words, known_line, read_known}
use Rattle.call_text.specs.Tidy.{is_blank, place_after, tidied_byte, tidied_from, tidied, tidy_text}
use Rattle.call_text.specs.Wanted.{wanted, lines_after, wanted_after}
use Rattle.call_text.specs.Lines.{bank_line, word_place, is_word_byte, latch_line, space_in, older_line, is_byte_number, timed_line, admit_line, line_in, line_end, lines_to, lines_in, memory_in, read_text}

unfoldable pub text_opened : Unit {0}
unfolding begins is_digit decimal_to is_number hex_digit is_hex hex_to is_hex_word hex_byte is_bytes bytes_of bank_line word_place is_word_byte latch_line space_in older_line is_byte_number timed_line admit_line line_in line_end lines_to lines_in memory_in read_text says said known_words known_line read_known is_blank place_after tidied_byte tidied_from tidied tidy_text wanted lines_after wanted_after
text_opened = tt
