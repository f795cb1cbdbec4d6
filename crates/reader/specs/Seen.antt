-- What a token stands for.
use Rattle.reader.specs.declared.words.Token.{Token}
use Rattle.reader.specs.declared.words.Token.TheVariants.{Word, Number, End}
use Rattle.reader.specs.Words.{Tok, word, number, end}

abbrev pub seen : Token → Tok
seen (Word bytes at) = word bytes.now at
seen (Number bytes value at) = number bytes.now value at
seen (End bytes at) = end bytes.now at
