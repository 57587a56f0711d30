-- The two forms of an encoded task (01, "Writer and replay"; 02, request 3): without steps, and with them.
use Rattle.std.specs.Prelude.{ℕ, Bool, ◌&&◌, List}
use Rattle.pixel.specs.declared.gradient.Steps.{Steps}
use Rattle.register.specs.Bank.{reset_steps}
use Rattle.encoder.specs.declared.fields.Fields.{Fields}
use Rattle.encoder.specs.Fields.{allowed, steps_allowed}
use Rattle.encoder.specs.Registers.{bank_of}
use Rattle.encoder.specs.Words.{task_words, shaded_words}

pub data Form : Type 0 where
  first_form : Fields → Form
  second_form : Fields → Steps → Form

abbrev pub fields_in : Form → Fields
fields_in (first_form f) = f
fields_in (second_form f steps) = f

-- a register's rule forbids no field
abbrev pub form_allowed : Form → Bool
form_allowed (first_form f) = allowed f
form_allowed (second_form f steps) = allowed f && steps_allowed steps

-- how many bytes it has
abbrev pub form_size : Form → ℕ
form_size (first_form f) = 80
form_size (second_form f steps) = 100

-- its words. The first form writes no step: those of the bank that is named here are in none of its words
abbrev pub form_words : Form → List ℕ
form_words (first_form f) = task_words (bank_of reset_steps f)
form_words (second_form f steps) = shaded_words (bank_of steps f)
