mod EndLemmas
