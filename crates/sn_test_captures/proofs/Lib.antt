mod SmallSums
